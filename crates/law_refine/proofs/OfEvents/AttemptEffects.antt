-- The effect of a reply to an attempt is what takes effect by the log's events of the step.
use Rattle.std.proofs.Common.{◌≡◌, ℕ, refl, sym, subst, Bool, true, false, List, [], ◌++◌}
use Rattle.std.specs.Prelude.{◌==◌, if◌then◌else◌, Option, Some, None}
use Rattle.fkv_base.specs.declared.numbers.Addr.{Addr}
use Rattle.fkv_map.specs.declared.operations.Op.{Op}
use Rattle.fkv_map.specs.declared.operations.Op.TheVariants.{Read}
use Rattle.fkv_map.specs.Keys.{key_of}
use Rattle.law_log.specs.Ghosts.{GhostEvent, TakesValue}
use Rattle.fkv_plane.specs.declared.asks.Ask.{Ask}
use Rattle.fkv_plane.specs.declared.asks.Ask.TheVariants.{Done}
use Rattle.fkv_plane.specs.declared.places.Places.{Places}
use Rattle.fkv_plane.specs.Passing.{passed}
use Rattle.law_world.specs.Below.fkv_ops.DiskRecord.{DiskRecord}
use Rattle.law_world.specs.Below.fkv_ops.TryAnswer.{TryAnswer}
use Rattle.law_world.specs.Below.fkv_ops.TryAnswer.TheVariants as answer
use Rattle.law_world.specs.Below.fkv_ops.HeaderSaid.{HeaderSaid}
use Rattle.law_world.specs.Below.fkv_ops.HeaderSaid.TheVariants.{Says, Spoiled}
use Rattle.law_world.specs.Below.fkv_ops.HeaderWords.{header_said}
use Rattle.law_world.specs.Below.fkv_ops.Values.{value_of}
use Rattle.law_world.specs.Below.fkv_ops.Trying.{TryState, try_ask, try_next, told_value}
use Rattle.law_world.proofs.Below.fkv_ops.Shown.{is_try_end, TryRestsOrAsks}
use Rattle.law_world.specs.Below.fkv_pending.TheAttempting.{Attempting}
use Rattle.law_world.specs.Below.fkv_pending.TheAttempting.TheVariants.{Ended, Looks, Tries, Puts}
use Rattle.law_world.specs.Below.fkv_pending.MailAnswer.{MailAnswer}
use Rattle.law_world.specs.Below.fkv_pending.MailAnswer.TheVariants as mail
use Rattle.law_world.specs.Below.fkv_pending.MailRecord.{MailRecord}
use Rattle.law_world.specs.Below.fkv_pending.Mailing.{mail_ask, mail_next, begin_told, is_gone}
use Rattle.law_world.specs.Below.fkv_pending.Pending.{with_sought, with_held, with_latch, with_asked, without_gone}
use Rattle.law_world.specs.Below.fkv_pending.Attempting.{AttemptState, attempting_ask, attempt_ask, attempt_ended, waits_for_disk, puts_addr, puts, tries, is_seeking_read, held_of, moved_on, read_on, record_taken, look_ledto, held_kept, awaits_record, tried, try_ledto, put_ledto, mail_moved, try_moved, attempting_next, attempt_next, goes_anew, mail_taken}
use Rattle.law_world.proofs.Below.fkv_pending.Shown.{AttemptRestsOrAsks}
use Rattle.law_world.specs.Below.fkv_session.Sessions.{Seat, bits_of, room_of}
use Rattle.law_refine.specs.Events.Tries.{try_ghosts}
use Rattle.fkv_map.specs.declared.history.HistoryEntry.{HistoryEntry}
use Rattle.fkv_map.specs.declared.operations.Reply.{Reply}
use Rattle.law_refine.specs.Events.Reservations.{try_reserves, attempt_reserves}
use Rattle.law_refine.specs.Events.Effects.{AreQuiet, Stepped, stepped, TakesEffect, Quietly, Behind}
use Rattle.law_refine.specs.Events.Sessions.{value_ghosts, tried_ghosts, attempt_ghosts}
use Rattle.law_world.specs.Below.fkv_ops.Requests.{is_read, is_chain_end}
use Rattle.law_refine.proofs.OfEvents.ReadTries.{read_quiet}
use Rattle.law_refine.proofs.OfEvents.RequestNames.{TriesAt, TriesIts}
use Rattle.law_refine.proofs.OfEvents.TryEffects.{made_entry, passes_on, quiet, try_takes}

-- ---- where an attempt goes on or ends, what it has told as its effect stays
either_keeps : (c : Bool) (a b : AttemptState) (made : Option Reply) → a.effect ≡ made → b.effect ≡ made → (if c then a else b).effect ≡ made
either_keeps true a b made one other = one
either_keeps false a b made one other = other

puts_keeps : (a : AttemptState) (sought : Option DiskRecord) → (puts_addr a sought).effect ≡ a.effect
puts_keeps a None = refl
puts_keeps a (Some sought) = refl

read_keeps : (a : AttemptState) (its : MailRecord) (said : HeaderSaid) → (read_on a its said).effect ≡ a.effect
read_keeps a its Spoiled = puts_keeps a a.pending.sought
read_keeps a its (Says previous version) =
    let next : AttemptState = record a { pending = with_sought a.pending (moved_on a.pending.sought previous) } in
    either_keeps (its.key.0 == (key_of a.pending.request.op).0) (attempt_ended a (told_value (value_of its.value)))
    (if is_chain_end a.pending.request.floor previous then attempt_ended a answer.Absent else puts next) a.effect refl
    (either_keeps (is_chain_end a.pending.request.floor previous) (attempt_ended a answer.Absent) (puts next) a.effect refl
    (puts_keeps next next.pending.sought))

taken_keeps : (p : Places) (bits : ℕ) (a : AttemptState) (its : MailRecord) (said : HeaderSaid) → (record_taken p bits a its said).effect ≡ a.effect
taken_keeps p bits a its said =
    either_keeps (is_seeking_read a) (read_on a its said) (tries p bits (record a { pending = with_held a.pending (held_of a.pending.sought its said) })) a.effect (read_keeps a its said) refl

anew_keeps : (p : Places) (bits : ℕ) (a : AttemptState) (begin : Addr) → (goes_anew p bits a begin).effect ≡ a.effect
anew_keeps p bits a begin =
    let its : AttemptState = record a { pending = without_gone a.pending begin } in
    either_keeps (is_seeking_read a) (waits_for_disk its) (tries p bits its) a.effect refl refl

mail_keeps : (p : Places) (bits : ℕ) (a : AttemptState) (its : MailRecord) → (mail_taken p bits a its).effect ≡ a.effect
mail_keeps p bits a its =
    either_keeps (is_gone its) (goes_anew p bits a (begin_told its)) (record_taken p bits a its (header_said its.header)) a.effect
    (anew_keeps p bits a (begin_told its)) (taken_keeps p bits a its (header_said its.header))

look_keeps : (p : Places) (bits : ℕ) (a : AttemptState) (ask : Ask MailAnswer) → (look_ledto p bits a ask).effect ≡ a.effect
unfolding look_ledto
look_keeps p bits a (Done (mail.Taken its)) = mail_keeps p bits (record a { is_emptied = true; pending = with_asked a.pending false }) its
look_keeps p bits a (Done other) = either_keeps (is_seeking_read a) (waits_for_disk a) (tries p bits a) a.effect refl refl
look_keeps p bits a ask = refl

put_keeps : (a : AttemptState) (ask : Ask MailAnswer) → (put_ledto a ask).effect ≡ a.effect
unfolding put_ledto
put_keeps a (Done mail.Asked) = refl
put_keeps a (Done other) = refl
put_keeps a ask = refl

awaits_keeps : (a : AttemptState) (sought : DiskRecord) → (awaits_record a sought).effect ≡ a.effect
awaits_keeps a sought = either_keeps a.pending.has_asked (waits_for_disk its) (puts next) a.effect refl (puts_keeps next next.pending.sought)
  where
    its : AttemptState
    its = record a { pending = with_held a.pending (held_kept a.pending.request.held sought.entry) }

    next : AttemptState
    next = record its { pending = with_sought its.pending (Some sought) }

tried_keeps : (a : AttemptState) (its : TryAnswer) → (tried a its).effect ≡ a.effect
tried_keeps a (answer.AwaitsDisk sought) = awaits_keeps a sought
tried_keeps a (answer.Wait its) = refl
tried_keeps a its = refl

try_keeps : (a : AttemptState) (ask : Ask TryAnswer) → (try_ledto a ask).effect ≡ a.effect
unfolding try_ledto
try_keeps a (Done its) = tried_keeps (record a { spare = a.trial.spare; pending = with_latch a.pending a.trial.has_shared }) its
try_keeps a ask = refl

-- ---- each reply to an attempt
rests_at : (a : AttemptState) → a.step ≡ Tries → AttemptRestsOrAsks a → TryRestsOrAsks a.trial × (is_try_end a.trial.step ≡ false)
rests_at a at rests = subst (λ (x : Attempting). AttemptRestsOrAsks (record a { step = x })) at rests

attempting_takes : (k : Seat) (reader : ℕ) (a : AttemptState) (step : Attempting) (reply : ℕ) → a.step ≡ step → AttemptRestsOrAsks a → TriesAt a.pending a.trial step
    → TakesEffect (stepped k.places a.pending.request.version (attempt_reserves k.number a step) (attempting_ask k.places k.number a step) reply) (tried_ghosts k reader a step reply)
    (made_entry k.number a.pending (attempting_next k.places (bits_of k) (room_of k) k.number (record a { effect = None }) step reply).effect)
unfolding attempting_next attempting_ask
attempting_takes k reader a (Ended its) reply at rests so = Quietly [] tt
attempting_takes k reader a Looks reply at rests so =
    quiet k.number a.pending _ [] _ tt (look_keeps k.places (bits_of k) (mail_moved (record a { effect = None }) reply) (mail_ask k.number (mail_next a.mailing reply)))
attempting_takes k reader a Tries reply at rests so =
    let t : TryState = try_next k.places (room_of k) a.trial reply in
    let its : AttemptState = try_moved k.places (room_of k) (record a { effect = None }) reply in
    subst (λ (x : Option Reply). TakesEffect (stepped k.places a.pending.request.version (try_reserves k.number a.pending a.trial a.trial.step) (passed (try_ask k.places a.trial) answer.Shift) reply)
    (try_ghosts k.places (room_of k) k.number reader a.pending a.trial a.trial.step reply) (made_entry k.number a.pending x))
    (sym (try_keeps its (try_ask k.places t)))
    (passes_on k.places a.pending.request.version _ (try_ask k.places a.trial) answer.Shift reply _ _ (try_takes k.places (room_of k) k.number reader a.pending a.trial reply (rests_at a at rests).0 so.of_request))
attempting_takes k reader a Puts reply at rests so =
    quiet k.number a.pending _ [] _ tt (put_keeps (mail_moved (record a { effect = None }) reply) (mail_ask k.number (mail_next a.mailing reply)))

value_takes : (its_step : Stepped) (op : Op) (reader : ℕ) (ask : Ask TryAnswer) (events : List GhostEvent) (made : Option HistoryEntry) → TakesEffect its_step events made → TakesEffect its_step (value_ghosts op reader ask ++ events) made
value_takes its_step (Read key) reader (Done (answer.Found value)) events made its = Behind (TakesValue reader) tt its
value_takes its_step (Read key) reader (Done answer.Absent) events made its = Behind (TakesValue reader) tt its
value_takes its_step op reader ask events made its = its

value_quiet : (op : Op) (reader : ℕ) (ask : Ask TryAnswer) (events : List GhostEvent) → AreQuiet events → AreQuiet (value_ghosts op reader ask ++ events)
value_quiet (Read key) reader (Done (answer.Found value)) events its = (tt, its)
value_quiet (Read key) reader (Done answer.Absent) events its = (tt, its)
value_quiet op reader ask events its = its

tried_quiet : (k : Seat) (reader : ℕ) (a : AttemptState) (step : Attempting) (reply : ℕ) → is_read a.pending.request.op ≡ true → TriesAt a.pending a.trial step → AreQuiet (tried_ghosts k reader a step reply)
tried_quiet k reader a Tries reply read so = read_quiet k.places (room_of k) k.number reader a.pending a.trial a.trial.step reply (so.reads read).step
tried_quiet k reader a step reply read so = tt

-- by a read's attempt no update takes effect
pub attempt_quiet : (k : Seat) (reader : ℕ) (a : AttemptState) (reply : ℕ) → is_read a.pending.request.op ≡ true → TriesIts a → AreQuiet (attempt_ghosts k reader a reply)
attempt_quiet k reader a reply read so =
    value_quiet a.pending.request.op reader (attempt_ask k.places k.number (attempt_next k.places (bits_of k) (room_of k) k.number a reply)) (tried_ghosts k reader a a.step reply) (tried_quiet k reader a a.step reply read so)

pub attempt_takes : (k : Seat) (reader : ℕ) (a : AttemptState) (reply : ℕ) → AttemptRestsOrAsks a → TriesIts a
    → TakesEffect (stepped k.places a.pending.request.version (attempt_reserves k.number a a.step) (attempt_ask k.places k.number a) reply) (attempt_ghosts k reader a reply)
    (made_entry k.number a.pending (attempt_next k.places (bits_of k) (room_of k) k.number a reply).effect)
attempt_takes k reader a reply rests so =
    let after : AttemptState = attempt_next k.places (bits_of k) (room_of k) k.number a reply in
    value_takes _ a.pending.request.op reader (attempt_ask k.places k.number after) (tried_ghosts k reader a a.step reply) (made_entry k.number a.pending after.effect) (attempting_takes k reader a a.step reply refl rests so)
