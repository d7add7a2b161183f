-- So it is with an attempt; and no request brings the word that stands for no value.
use Rattle.std.proofs.Common.{◌≡◌, ℕ, ◌∙◌, refl, sym, ap, subst, Bool, true, false}
use Rattle.std.specs.Prelude.{if◌then◌else◌, ⊤, Option, Some, None}
use Rattle.fkv_map.specs.declared.operations.Op.{Op}
use Rattle.fkv_map.specs.Map.{is_reserved}
use Rattle.fkv_plane.specs.declared.asks.Ask.{Ask}
use Rattle.fkv_plane.specs.declared.asks.Ask.TheVariants.{Done}
use Rattle.fkv_plane.specs.declared.places.Places.{Places}
use Rattle.law_world.specs.Below.fkv_ops.DiskRecord.{DiskRecord}
use Rattle.law_world.specs.Below.fkv_ops.TryAnswer.{TryAnswer}
use Rattle.law_world.specs.Below.fkv_ops.TryAnswer.TheVariants as answer
use Rattle.law_world.specs.Below.fkv_ops.Occasion.{Occasion}
use Rattle.law_world.specs.Below.fkv_ops.Seen.{Seen}
use Rattle.law_world.specs.Below.fkv_ops.Trying.{TryState, try_ask}
use Rattle.law_world.specs.Below.fkv_pending.TheAttempting.{Attempting}
use Rattle.law_world.specs.Below.fkv_pending.TheAttempting.TheVariants.{Ended, Looks, Tries, Puts}
use Rattle.law_world.specs.Below.fkv_pending.MailAnswer.{MailAnswer}
use Rattle.law_world.specs.Below.fkv_pending.MailAnswer.TheVariants as mail
use Rattle.law_world.specs.Below.fkv_pending.PendingRequest.{PendingRequest}
use Rattle.law_world.specs.Below.fkv_pending.Mailing.{mail_ask, mail_next}
use Rattle.law_world.specs.Below.fkv_pending.Pending.{with_sought, with_held, with_latch}
use Rattle.law_world.specs.Below.fkv_pending.Attempting.{AttemptState, attempt_begun, waits_for_disk, puts_addr, puts, tries, is_seeking_read, goes_on, look_ledto, held_kept, awaits_record, tried, try_ledto, put_ledto, mail_moved, try_moved, attempting_next, attempt_next, new_attempt}
use Rattle.law_world.specs.Below.fkv_session.Sessions.{Seat, bits_of, room_of}
use Rattle.law_world.proofs.Below.fkv_session.Shown.{attempt_keeps}
use Rattle.law_refine.proofs.OfRecords.AppendRows.{Standing}
use Rattle.law_refine.proofs.OfRecords.TryRows.{TryStandsNow, TryWrites, begun_so, try_so}
use Rattle.law_refine.proofs.OfEvents.Looks.{look_holds}

-- the operation brings no such word
abbrev pub IsAllowed : Op → Type 0
IsAllowed op = is_reserved op ≡ false

-- by the attempt's control state
abbrev pub TriesAt : Standing → TryState → Attempting → Type 0
TriesAt stands t Tries = TryStandsNow stands t
TriesAt stands t step = ⊤

abbrev pub AttemptWrites : Standing → Standing → AttemptState → Attempting → Type 0
AttemptWrites stands after a Tries = TryWrites stands after a.trial a.trial.step
AttemptWrites stands after a step = ⊤

abbrev TriesNow : Standing → AttemptState → Type 0
TriesNow stands a = TriesAt stands a.trial a.step

pub record IsAttemptSo (stands : Standing) (a : AttemptState) : Type 0 where
  pub allowed : IsAllowed a.pending.request.op
  pub tries_so : TriesNow stands a

either_tries : (after : Standing) (c : Bool) (a b : AttemptState) → TriesNow after a → TriesNow after b → TriesNow after (if c then a else b)
either_tries after true a b one other = one
either_tries after false a b one other = other

still_tries : (after : Standing) (a : AttemptState) (step : Attempting) → a.step ≡ step → TriesAt after a.trial step → TriesNow after a
still_tries after a step at its = subst (TriesAt after a.trial) (sym at) its

puts_tries : (after : Standing) (a : AttemptState) (sought : Option DiskRecord) → TriesNow after (puts_addr a sought)
puts_tries after a None = tt
puts_tries after a (Some sought) = tt

tries_anew : (after : Standing) (p : Places) (bits : ℕ) (a : AttemptState) → TriesNow after (tries p bits a)
tries_anew after p bits a = begun_so after p bits a.pending.request a.seen a.occasion a.spare

look_tries : (after : Standing) (p : Places) (bits : ℕ) (a : AttemptState) (ask : Ask MailAnswer) → a.step ≡ Looks → TriesNow after (look_ledto p bits a ask)
look_tries after p bits a ask at =
    look_holds (λ its. TriesNow after its) (λ its told. tt) (λ its sought. puts_tries after its sought) p bits (λ its. tries_anew after p bits its) a ask (still_tries after a Looks at tt)

awaits_tries : (after : Standing) (a : AttemptState) (sought : DiskRecord) → TriesNow after (awaits_record a sought)
awaits_tries after a sought = either_tries after a.pending.has_asked (waits_for_disk its) (puts next) tt (puts_tries after next next.pending.sought)
  where
    its : AttemptState
    its = record a { pending = with_held a.pending (held_kept a.pending.request.held sought.entry) }

    next : AttemptState
    next = record its { pending = with_sought its.pending (Some sought) }

tried_tries : (after : Standing) (a : AttemptState) (its : TryAnswer) → TriesNow after (tried a its)
tried_tries after a (answer.AwaitsDisk sought) = awaits_tries after a sought
tried_tries after a (answer.Wait its) = tt
tried_tries after a its = tt

led_tries : (after : Standing) (a : AttemptState) (ask : Ask TryAnswer) → TriesNow after a → TriesNow after (try_ledto a ask)
unfolding try_ledto
led_tries after a (Done its) so = tried_tries after (record a { spare = a.trial.spare; pending = with_latch a.pending a.trial.has_shared }) its
led_tries after a ask so = so

put_tries : (after : Standing) (a : AttemptState) (ask : Ask MailAnswer) → a.step ≡ Puts → TriesNow after (put_ledto a ask)
unfolding put_ledto
put_tries after a (Done mail.Asked) at = tt
put_tries after a (Done other) at = tt
put_tries after a ask at = still_tries after a Puts at tt

-- each reply to it
attempting_tries : (stands after : Standing) (p : Places) (bits room session : ℕ) (a : AttemptState) (step : Attempting) (reply : ℕ) → a.step ≡ step → TriesNow stands a → AttemptWrites stands after a step
    → TriesNow after (attempting_next p bits room session (record a { effect = None }) step reply)
unfolding attempting_next
attempting_tries stands after p bits room session a (Ended its) reply at so writes = still_tries after a (Ended its) at tt
attempting_tries stands after p bits room session a Looks reply at so writes = look_tries after p bits (mail_moved (record a { effect = None }) reply) (mail_ask session (mail_next a.mailing reply)) at
attempting_tries stands after p bits room session a Tries reply at so writes =
    let its : AttemptState = try_moved p room (record a { effect = None }) reply in
    let was : TryStandsNow stands a.trial = subst (TriesAt stands a.trial) at so in
    led_tries after its (try_ask p its.trial) (still_tries after its Tries at (try_so stands after p room a.trial reply was writes))
attempting_tries stands after p bits room session a Puts reply at so writes = put_tries after (mail_moved (record a { effect = None }) reply) (mail_ask session (mail_next a.mailing reply)) at

pub moved_so : (stands after : Standing) (k : Seat) (a : AttemptState) (reply : ℕ) → IsAttemptSo stands a → AttemptWrites stands after a a.step → IsAttemptSo after (attempt_next k.places (bits_of k) (room_of k) k.number a reply)
moved_so stands after k a reply its writes =
    let same = attempt_keeps k.places (bits_of k) (room_of k) k.number a reply in
    record { allowed = ap is_reserved same.op ∙ its.allowed; tries_so = attempting_tries stands after k.places (bits_of k) (room_of k) k.number a a.step reply refl its.tries_so writes }

-- and how it begins
either_attempt : (after : Standing) (c : Bool) (a b : AttemptState) → IsAttemptSo after a → IsAttemptSo after b → IsAttemptSo after (if c then a else b)
either_attempt after true a b one other = one
either_attempt after false a b one other = other

puts_so : (after : Standing) (a : AttemptState) (sought : Option DiskRecord) → IsAllowed a.pending.request.op → IsAttemptSo after (puts_addr a sought)
puts_so after a None allowed = record { allowed = allowed; tries_so = tt }
puts_so after a (Some sought) allowed = record { allowed = allowed; tries_so = tt }

pub attempt_so : (after : Standing) (p : Places) (bits : ℕ) (pending : PendingRequest) (seen : Seen) (occasion : Occasion) (spare : ℕ) (is_orphaned : Bool) → IsAllowed pending.request.op
    → IsAttemptSo after (attempt_begun p bits pending seen occasion spare is_orphaned)
attempt_so after p bits pending seen occasion spare is_orphaned allowed =
    let its : AttemptState = new_attempt bits pending seen occasion spare is_orphaned in
    either_attempt after pending.has_asked _ (goes_on p bits its) (record { allowed = allowed; tries_so = tt })
    (either_attempt after (is_seeking_read its) (puts its) (tries p bits its) (puts_so after its its.pending.sought allowed) (record { allowed = allowed; tries_so = tries_anew after p bits its }))
