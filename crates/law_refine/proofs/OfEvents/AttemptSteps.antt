-- How a reply to an attempt moves what it has reserved, beside the log's events of the step.
use Rattle.std.proofs.Common.{◌≡◌, ℕ, ◌∙◌, refl, sym, ap, subst, Bool, true, false, List, [], ◌++◌}
use Rattle.std.specs.Prelude.{if◌then◌else◌, Option, Some, None}
use Rattle.fkv_map.specs.declared.operations.Op.{Op}
use Rattle.fkv_map.specs.declared.operations.Op.TheVariants.{Read}
use Rattle.law_log.specs.Ghosts.{GhostEvent, TakesValue}
use Rattle.fkv_plane.specs.declared.asks.Ask.{Ask}
use Rattle.fkv_plane.specs.declared.asks.Ask.TheVariants.{Done}
use Rattle.fkv_plane.specs.declared.places.Places.{Places}
use Rattle.fkv_plane.specs.Asked.{asked, asked_place}
use Rattle.fkv_plane.specs.Passing.{is_done}
use Rattle.law_world.specs.Below.fkv_ops.DiskRecord.{DiskRecord}
use Rattle.law_world.specs.Below.fkv_ops.TryAnswer.{TryAnswer}
use Rattle.law_world.specs.Below.fkv_ops.TryAnswer.TheVariants as answer
use Rattle.law_world.specs.Below.fkv_ops.Occasion.{Occasion}
use Rattle.law_world.specs.Below.fkv_ops.Seen.{Seen}
use Rattle.law_world.specs.Below.fkv_ops.TheTrying.{Trying}
use Rattle.law_world.specs.Below.fkv_ops.TheTrying.TheVariants as trying
use Rattle.law_world.specs.Below.fkv_ops.Trying.{TryState, try_ask, try_next}
use Rattle.law_world.proofs.Below.fkv_ops.Shown.{is_try_end, TryRestsOrAsks, try_done, try_rests}
use Rattle.law_world.specs.Below.fkv_pending.TheAttempting.{Attempting}
use Rattle.law_world.specs.Below.fkv_pending.TheAttempting.TheVariants.{Ended, Looks, Tries, Puts}
use Rattle.law_world.specs.Below.fkv_pending.MailAnswer.{MailAnswer}
use Rattle.law_world.specs.Below.fkv_pending.MailAnswer.TheVariants as mail
use Rattle.law_world.specs.Below.fkv_pending.MailTask.TheVariants.{Take}
use Rattle.law_world.specs.Below.fkv_pending.TheMailing.TheVariants.{LoadsState}
use Rattle.law_world.specs.Below.fkv_pending.PendingRequest.{PendingRequest}
use Rattle.law_world.specs.Below.fkv_pending.Mailing.{mail_ask, mail_next}
use Rattle.law_world.specs.Below.fkv_pending.Pending.{with_sought, with_held, with_latch}
use Rattle.law_world.specs.Below.fkv_pending.Attempting.{AttemptState, attempting_ask, attempt_ask, waits_for_disk, puts_addr, puts, tries, is_seeking_read, goes_on, attempt_begun, look_ledto, held_kept, awaits_record, tried, try_ledto, put_ledto, mail_moved, try_moved, attempting_next, attempt_next, new_attempt}
use Rattle.law_world.proofs.Below.fkv_pending.Shown.{AttemptRestsOrAsks}
use Rattle.law_world.specs.Below.fkv_session.Sessions.{Seat, bits_of, room_of}
use Rattle.law_refine.specs.Events.Reservations.{MovesOn, Keeps, Behind, Reservation, try_reserves, attempt_reserves}
use Rattle.law_refine.specs.Events.Sessions.{value_ghosts, tried_ghosts, attempt_ghosts}
use Rattle.law_refine.specs.Events.Tries.{try_ghosts}
use Rattle.law_refine.proofs.OfEvents.AppendSteps.{passes}
use Rattle.law_refine.proofs.OfEvents.TrySteps.{begun_free, try_on}
use Rattle.law_refine.proofs.OfEvents.Looks.{look_holds}

-- nothing is reserved by it
abbrev pub IsFreeOf : ℕ → AttemptState → Type 0
IsFreeOf session a = attempt_reserves session a a.step ≡ None

either_free : (session : ℕ) (c : Bool) (a b : AttemptState) → IsFreeOf session a → IsFreeOf session b → IsFreeOf session (if c then a else b)
either_free session true a b one other = one
either_free session false a b one other = other

puts_addr_free : (session : ℕ) (a : AttemptState) (sought : Option DiskRecord) → IsFreeOf session (puts_addr a sought)
puts_addr_free session a None = refl
puts_addr_free session a (Some sought) = refl

tries_free : (session : ℕ) (p : Places) (bits : ℕ) (a : AttemptState) → IsFreeOf session (tries p bits a)
tries_free session p bits a = begun_free p bits a.pending.request a.seen a.occasion a.spare session a.pending

goes_free : (session : ℕ) (p : Places) (bits : ℕ) (a : AttemptState) → IsFreeOf session (goes_on p bits a)
goes_free session p bits a = either_free session (is_seeking_read a) (puts a) (tries p bits a) (puts_addr_free session a a.pending.sought) (tries_free session p bits a)

pub attempt_begun_free : (session : ℕ) (p : Places) (bits : ℕ) (pending : PendingRequest) (seen : Seen) (occasion : Occasion) (spare : ℕ) (is_orphaned : Bool)
    → IsFreeOf session (attempt_begun p bits pending seen occasion spare is_orphaned)
attempt_begun_free session p bits pending seen occasion spare is_orphaned =
    let its : AttemptState = new_attempt bits pending seen occasion spare is_orphaned in
    either_free session pending.has_asked (record its { mailing = LoadsState Take; step = Looks }) (goes_on p bits its) refl (goes_free session p bits its)

-- ---- a look into the mailbox
look_free : (session : ℕ) (p : Places) (bits : ℕ) (a : AttemptState) (ask : Ask MailAnswer) → a.step ≡ Looks → IsFreeOf session (look_ledto p bits a ask)
look_free session p bits a ask at =
    look_holds (λ its. IsFreeOf session its) (λ its told. refl) (λ its sought. puts_addr_free session its sought) p bits (λ its. tries_free session p bits its) a ask (ap (attempt_reserves session a) at)

put_free : (session : ℕ) (a : AttemptState) (ask : Ask MailAnswer) → a.step ≡ Puts → IsFreeOf session (put_ledto a ask)
unfolding put_ledto
put_free session a (Done mail.Asked) at = refl
put_free session a (Done other) at = refl
put_free session a ask at = ap (attempt_reserves session a) at

-- ---- where the try ends
awaits_free : (session : ℕ) (a : AttemptState) (sought : DiskRecord) → IsFreeOf session (awaits_record a sought)
awaits_free session a sought = either_free session a.pending.has_asked (waits_for_disk its) (puts next) refl (puts_addr_free session next next.pending.sought)
  where
    its : AttemptState
    its = record a { pending = with_held a.pending (held_kept a.pending.request.held sought.entry) }

    next : AttemptState
    next = record its { pending = with_sought its.pending (Some sought) }

tried_free : (session : ℕ) (a : AttemptState) (its : TryAnswer) → IsFreeOf session (tried a its)
tried_free session a (answer.AwaitsDisk sought) = awaits_free session a sought
tried_free session a (answer.Wait its) = refl
tried_free session a its = refl

ended_holds_none : (session : ℕ) (pending : PendingRequest) (t : TryState) (step : Trying) → is_try_end step ≡ true → try_reserves session pending t step ≡ None
ended_holds_none session pending t (trying.Ended its) ends = refl
ended_holds_none session pending t step ends = cc

try_holds : (session : ℕ) (a : AttemptState) (ask : Ask TryAnswer) → a.step ≡ Tries → is_done ask ≡ is_try_end a.trial.step
    → try_reserves session a.pending a.trial a.trial.step ≡ attempt_reserves session (try_ledto a ask) (try_ledto a ask).step
unfolding try_ledto
try_holds session a (Done told) at ends = ended_holds_none session a.pending a.trial a.trial.step (sym ends) ∙ sym (tried_free session (record a { spare = a.trial.spare; pending = with_latch a.pending a.trial.has_shared }) told)
try_holds session a ask at ends = sym (ap (attempt_reserves session a) at)

-- ---- each reply to an attempt
free_on : (place : Option ℕ) (change : ℕ → ℕ) (reply session : ℕ) (after : AttemptState) → IsFreeOf session after → MovesOn place change reply [] None (attempt_reserves session after after.step)
free_on place change reply session after free = rw free (Keeps [] None tt)

rests_at : (a : AttemptState) → a.step ≡ Tries → AttemptRestsOrAsks a → TryRestsOrAsks a.trial × (is_try_end a.trial.step ≡ false)
rests_at a at rests = subst (λ (x : Attempting). AttemptRestsOrAsks (record a { step = x })) at rests

attempting_on : (k : Seat) (reader : ℕ) (a : AttemptState) (step : Attempting) (reply : ℕ) → a.step ≡ step → AttemptRestsOrAsks a
    → (let after : AttemptState = attempting_next k.places (bits_of k) (room_of k) k.number (record a { effect = None }) step reply in
    MovesOn (asked_place (attempting_ask k.places k.number a step)) (asked (attempting_ask k.places k.number a step)) reply (tried_ghosts k reader a step reply) (attempt_reserves k.number a step) (attempt_reserves k.number after after.step))
unfolding attempting_next attempting_ask
attempting_on k reader a (Ended its) reply at rests = rw at (Keeps [] None tt)
attempting_on k reader a Looks reply at rests =
    let its : AttemptState = mail_moved (record a { effect = None }) reply in
    let ask : Ask MailAnswer = mail_ask k.number (mail_next a.mailing reply) in
    free_on _ _ reply k.number (look_ledto k.places (bits_of k) its ask) (look_free k.number k.places (bits_of k) its ask at)
attempting_on k reader a Tries reply at rests =
    let way = rests_at a at rests in
    let t : TryState = try_next k.places (room_of k) a.trial reply in
    let its : AttemptState = try_moved k.places (room_of k) (record a { effect = None }) reply in
    let held = try_holds k.number its (try_ask k.places t) at (try_done k.places t (try_rests k.places (room_of k) a.trial reply way.0)) in
    passes (try_ask k.places a.trial) answer.Shift reply _ _ _
    (subst (λ (x : Option Reservation). MovesOn (asked_place (try_ask k.places a.trial)) (asked (try_ask k.places a.trial)) reply (try_ghosts k.places (room_of k) k.number reader a.pending a.trial a.trial.step reply) (try_reserves k.number a.pending a.trial a.trial.step) x)
    held (try_on k.places (room_of k) k.number reader a.pending a.trial reply way.0))
attempting_on k reader a Puts reply at rests =
    let its : AttemptState = mail_moved (record a { effect = None }) reply in
    let ask : Ask MailAnswer = mail_ask k.number (mail_next a.mailing reply) in
    free_on _ _ reply k.number (put_ledto its ask) (put_free k.number its ask at)

-- the value that a read takes is no more
value_on : (place : Option ℕ) (change : ℕ → ℕ) (reply : ℕ) (op : Op) (reader : ℕ) (ask : Ask TryAnswer) (events : List GhostEvent) (before after : Option Reservation)
    → MovesOn place change reply events before after → MovesOn place change reply (value_ghosts op reader ask ++ events) before after
value_on place change reply (Read key) reader (Done (answer.Found value)) events before after its = Behind (TakesValue reader) tt its
value_on place change reply (Read key) reader (Done answer.Absent) events before after its = Behind (TakesValue reader) tt its
value_on place change reply op reader ask events before after its = its

pub attempt_on : (k : Seat) (reader : ℕ) (a : AttemptState) (reply : ℕ) → AttemptRestsOrAsks a
    → (let after : AttemptState = attempt_next k.places (bits_of k) (room_of k) k.number a reply in
    MovesOn (asked_place (attempt_ask k.places k.number a)) (asked (attempt_ask k.places k.number a)) reply (attempt_ghosts k reader a reply) (attempt_reserves k.number a a.step) (attempt_reserves k.number after after.step))
attempt_on k reader a reply rests =
    let after : AttemptState = attempt_next k.places (bits_of k) (room_of k) k.number a reply in
    value_on (asked_place (attempt_ask k.places k.number a)) (asked (attempt_ask k.places k.number a)) reply a.pending.request.op reader (attempt_ask k.places k.number after) (tried_ghosts k reader a a.step reply) _ _
    (attempting_on k reader a a.step reply refl rests)
