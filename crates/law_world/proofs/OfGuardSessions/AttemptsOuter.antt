-- The words that an attempt writes beside its records' and its mailbox are none of the guard's.
use Rattle.std.proofs.Common.{◌≡◌, ℕ, ◌<◌, refl, sym, subst, Bool, true, false}
use Rattle.std.specs.Prelude.{if◌then◌else◌, ◌==◌, ⊤, Option, Some, None}
use Rattle.fkv_base.specs.declared.numbers.Addr.{Addr}
use Rattle.fkv_map.specs.Keys.{key_of}
use Rattle.fkv_plane.specs.declared.asks.Ask.{Ask}
use Rattle.fkv_plane.specs.declared.asks.Ask.TheVariants.{Done}
use Rattle.fkv_plane.specs.declared.places.Places.{Places}
use Rattle.fkv_plane.specs.Passing.{passed}
use Rattle.fkv_base.specs.declared.numbers.Key.{Key}
use Rattle.fkv_index.specs.Slots.{home_of}
use Rattle.fkv_ops.specs.declared.answers.DiskRecord.{DiskRecord}
use Rattle.fkv_ops.specs.declared.answers.TryAnswer.{TryAnswer}
use Rattle.fkv_ops.specs.declared.answers.TryAnswer.TheVariants as answer
use Rattle.fkv_ops.specs.declared.header_words.HeaderSaid.{HeaderSaid}
use Rattle.fkv_ops.specs.declared.header_words.HeaderSaid.TheVariants.{Says, Spoiled}
use Rattle.fkv_ops.specs.declared.requests.Occasion.{Occasion}
use Rattle.fkv_ops.specs.declared.requests.Seen.{Seen}
use Rattle.fkv_ops.specs.HeaderWords.{header_said}
use Rattle.fkv_ops.specs.Requests.{is_chain_end}
use Rattle.fkv_ops.specs.Trying.{try_ask, try_next, told_value}
use Rattle.fkv_ops.specs.Values.{value_of}
use Rattle.fkv_pending.specs.declared.attempting.Attempting.{Attempting}
use Rattle.fkv_pending.specs.declared.attempting.Attempting.TheVariants.{Ended, Looks, Tries, Puts}
use Rattle.fkv_pending.specs.declared.mailing.MailAnswer.{MailAnswer}
use Rattle.fkv_pending.specs.declared.mailing.MailAnswer.TheVariants as mail
use Rattle.fkv_pending.specs.declared.mailing.MailRecord.{MailRecord}
use Rattle.fkv_pending.specs.declared.mailing.MailTask.TheVariants.{Take}
use Rattle.fkv_pending.specs.declared.mailing.Mailing.TheVariants as mailing
use Rattle.fkv_pending.specs.declared.pending_requests.PendingRequest.{PendingRequest}
use Rattle.fkv_pending.specs.Mailing.{mail_ask, mail_next, is_gone, begin_told}
use Rattle.fkv_pending.specs.Pending.{with_sought, with_held, with_latch, with_asked, without_gone}
use Rattle.fkv_pending.specs.Attempting.{AttemptState, attempting_ask, attempt_ended, waits_for_disk, puts_addr, puts, tries, is_seeking_read, goes_on, attempt_begun, held_of, moved_on, read_on, record_taken, goes_anew, mail_taken, look_ledto, held_kept, tried, try_ledto, put_ledto, mail_moved, try_moved, attempting_next, attempt_next, new_attempt}
use Rattle.law_world.specs.GuardSessions.Attempts.{AttemptWritesOuter}
use Rattle.law_world.proofs.OfGuardSessions.TriesOuter.{IsTryOuter, try_owes, try_next_outer, try_begun_outer}

-- each key's home is a bucket of the index
abbrev pub HomesAreLow : Places → ℕ → Type 0
HomesAreLow p bits = (key : Key) → (home_of bits key).bucket < p.buckets

abbrev pub AttemptRow : Places → AttemptState → Attempting → Type 0
AttemptRow p a Tries = IsTryOuter p a.trial
AttemptRow p a step = ⊤

abbrev pub IsAttemptOuter : Places → AttemptState → Type 0
IsAttemptOuter p a = AttemptRow p a a.step

-- what an attempt owes, as its ask is passed on
pub attempt_owes : {A : Type 0} (p : Places) (n : ℕ) (a : AttemptState) (step : Attempting) (x : A) → AttemptRow p a step → AttemptWritesOuter p a step (passed (attempting_ask p n a step) x)
unfolding attempting_ask
attempt_owes p n a Tries x row = try_owes p a.trial a.trial.step answer.Shift x row.row
attempt_owes p n a (Ended its) x row = tt
attempt_owes p n a Looks x row = tt
attempt_owes p n a Puts x row = tt

-- where a reply leads
either_outer : (c : Bool) (p : Places) (a b : AttemptState) → IsAttemptOuter p a → IsAttemptOuter p b → IsAttemptOuter p (if c then a else b)
either_outer true p a b one other = one
either_outer false p a b one other = other

stays_outer : (p : Places) (a : AttemptState) (step : Attempting) → a.step ≡ step → AttemptRow p a step → IsAttemptOuter p a
stays_outer p a step at row = subst (λ x. AttemptRow p a x) (sym at) row

puts_outer : (p : Places) (a : AttemptState) (sought : Option DiskRecord) → IsAttemptOuter p (puts_addr a sought)
puts_outer p a None = tt
puts_outer p a (Some sought) = tt

tries_outer : (p : Places) (bits : ℕ) (a : AttemptState) → HomesAreLow p bits → IsAttemptOuter p (tries p bits a)
tries_outer p bits a homes = try_begun_outer p bits a.pending.request a.seen a.occasion a.spare (homes (key_of a.pending.request.op))

goes_outer : (p : Places) (bits : ℕ) (a : AttemptState) → HomesAreLow p bits → IsAttemptOuter p (goes_on p bits a)
goes_outer p bits a homes = either_outer (is_seeking_read a) p (puts a) (tries p bits a) (puts_outer p a a.pending.sought) (tries_outer p bits a homes)

pub attempt_begun_outer : (p : Places) (bits : ℕ) (pending : PendingRequest) (seen : Seen) (occasion : Occasion) (spare : ℕ) (is_orphaned : Bool) → HomesAreLow p bits
    → IsAttemptOuter p (attempt_begun p bits pending seen occasion spare is_orphaned)
attempt_begun_outer p bits pending seen occasion spare is_orphaned homes =
    let first : AttemptState = new_attempt bits pending seen occasion spare is_orphaned in
    either_outer pending.has_asked p (record first { mailing = mailing.LoadsState Take; step = Looks }) (goes_on p bits first) tt (goes_outer p bits first homes)

read_outer : (p : Places) (a : AttemptState) (its : MailRecord) (said : HeaderSaid) → IsAttemptOuter p (read_on a its said)
read_outer p a its Spoiled = puts_outer p a a.pending.sought
read_outer p a its (Says previous version) =
    let moved : AttemptState = record a { pending = with_sought a.pending (moved_on a.pending.sought previous) } in
    either_outer (its.key.0 == (key_of a.pending.request.op).0) p (attempt_ended a (told_value (value_of its.value))) _ tt
    (either_outer (is_chain_end a.pending.request.floor previous) p (attempt_ended a answer.Absent) (puts moved) tt (puts_outer p moved moved.pending.sought))

record_outer : (p : Places) (bits : ℕ) (a : AttemptState) (its : MailRecord) (said : HeaderSaid) → HomesAreLow p bits → IsAttemptOuter p (record_taken p bits a its said)
record_outer p bits a its said homes =
    let held : AttemptState = record a { pending = with_held a.pending (held_of a.pending.sought its said) } in
    either_outer (is_seeking_read a) p (read_on a its said) (tries p bits held) (read_outer p a its said) (tries_outer p bits held homes)

-- where the record is gone a read waits, and any other request is tried anew
anew_outer : (p : Places) (bits : ℕ) (a : AttemptState) (begin : Addr) → HomesAreLow p bits → IsAttemptOuter p (goes_anew p bits a begin)
anew_outer p bits a begin homes =
    let its : AttemptState = record a { pending = without_gone a.pending begin } in
    either_outer (is_seeking_read a) p (waits_for_disk its) (tries p bits its) tt (tries_outer p bits its homes)

mail_outer : (p : Places) (bits : ℕ) (a : AttemptState) (its : MailRecord) → HomesAreLow p bits → IsAttemptOuter p (mail_taken p bits a its)
mail_outer p bits a its homes =
    either_outer (is_gone its) p (goes_anew p bits a (begin_told its)) (record_taken p bits a its (header_said its.header))
    (anew_outer p bits a (begin_told its) homes) (record_outer p bits a its (header_said its.header) homes)

look_outer : (p : Places) (bits : ℕ) (a : AttemptState) (ask : Ask MailAnswer) → a.step ≡ Looks → HomesAreLow p bits → IsAttemptOuter p (look_ledto p bits a ask)
unfolding look_ledto
look_outer p bits a (Done (mail.Taken its)) at homes = mail_outer p bits (record a { is_emptied = true; pending = with_asked a.pending false }) its homes
look_outer p bits a (Done other) at homes = either_outer (is_seeking_read a) p (waits_for_disk a) (tries p bits a) tt (tries_outer p bits a homes)
look_outer p bits a ask at homes = stays_outer p a Looks at tt

put_outer : (p : Places) (a : AttemptState) (ask : Ask MailAnswer) → a.step ≡ Puts → IsAttemptOuter p (put_ledto a ask)
unfolding put_ledto
put_outer p a (Done mail.Asked) at = tt
put_outer p a (Done other) at = tt
put_outer p a ask at = stays_outer p a Puts at tt

tried_outer : (p : Places) (a : AttemptState) (its : TryAnswer) → IsAttemptOuter p (tried a its)
tried_outer p a (answer.AwaitsDisk sought) =
    let kept : AttemptState = record a { pending = with_held a.pending (held_kept a.pending.request.held sought.entry) } in
    let moved : AttemptState = record kept { pending = with_sought kept.pending (Some sought) } in
    either_outer a.pending.has_asked p (waits_for_disk kept) (puts moved) tt (puts_outer p moved moved.pending.sought)
tried_outer p a (answer.Wait why) = tt
tried_outer p a its = tt

try_ledto_outer : (p : Places) (a : AttemptState) (ask : Ask TryAnswer) → a.step ≡ Tries → IsTryOuter p a.trial → IsAttemptOuter p (try_ledto a ask)
unfolding try_ledto
try_ledto_outer p a (Done its) at row = tried_outer p (record a { spare = a.trial.spare; pending = with_latch a.pending a.trial.has_shared }) its
try_ledto_outer p a ask at row = stays_outer p a Tries at row

next_outer : (p : Places) (bits room n : ℕ) (a : AttemptState) (step : Attempting) (reply : ℕ) → a.step ≡ step → HomesAreLow p bits → AttemptRow p a step → IsAttemptOuter p (attempting_next p bits room n a step reply)
unfolding attempting_next
next_outer p bits room n a (Ended its) reply at homes row = stays_outer p a (Ended its) at tt
next_outer p bits room n a Looks reply at homes row = look_outer p bits (mail_moved a reply) (mail_ask n (mail_next a.mailing reply)) at homes
next_outer p bits room n a Tries reply at homes row = try_ledto_outer p (try_moved p room a reply) (try_ask p (try_next p room a.trial reply)) at (try_next_outer p room a.trial reply row)
next_outer p bits room n a Puts reply at homes row = put_outer p (mail_moved a reply) (mail_ask n (mail_next a.mailing reply)) at

effect_outer : (p : Places) (a : AttemptState) (step : Attempting) → AttemptRow p a step → AttemptRow p (record a { effect = None }) step
effect_outer p a Tries row = row
effect_outer p a (Ended its) row = tt
effect_outer p a Looks row = tt
effect_outer p a Puts row = tt

-- each reply
pub attempt_next_outer : (p : Places) (bits room n : ℕ) (a : AttemptState) (reply : ℕ) → HomesAreLow p bits → IsAttemptOuter p a → IsAttemptOuter p (attempt_next p bits room n a reply)
attempt_next_outer p bits room n a reply homes row = next_outer p bits room n (record a { effect = None }) a.step reply refl homes (effect_outer p a a.step row)
