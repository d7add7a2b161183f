-- An attempt keeps what its session has seen, and its try holds a latch alone only where the session is between two versions.
use Rattle.std.proofs.Common.{◌≡◌, ℕ, refl, sym, subst, Bool, true, false}
use Rattle.std.specs.Prelude.{if◌then◌else◌, ◌==◌, ⊤, Option, Some, None}
use Rattle.fkv_base.specs.declared.numbers.Addr.{Addr}
use Rattle.fkv_map.specs.Keys.{key_of}
use Rattle.fkv_plane.specs.declared.asks.Ask.{Ask}
use Rattle.fkv_plane.specs.declared.asks.Ask.TheVariants.{Done}
use Rattle.fkv_plane.specs.declared.places.Places.{Places}
use Rattle.law_refine.specs.Below.fkv_ops.DiskRecord.{DiskRecord}
use Rattle.law_refine.specs.Below.fkv_ops.TryAnswer.{TryAnswer}
use Rattle.law_refine.specs.Below.fkv_ops.TryAnswer.TheVariants as answer
use Rattle.law_refine.specs.Below.fkv_ops.HeaderSaid.{HeaderSaid}
use Rattle.law_refine.specs.Below.fkv_ops.HeaderSaid.TheVariants.{Says, Spoiled}
use Rattle.law_refine.specs.Below.fkv_ops.Occasion.{Occasion}
use Rattle.law_refine.specs.Below.fkv_ops.Seen.{Seen}
use Rattle.law_refine.specs.Below.fkv_ops.HeaderWords.{header_said}
use Rattle.law_refine.specs.Below.fkv_ops.Requests.{is_chain_end}
use Rattle.law_refine.specs.Below.fkv_ops.Trying.{try_ask, try_next, told_value}
use Rattle.law_refine.specs.Below.fkv_ops.Values.{value_of}
use Rattle.law_refine.specs.Below.fkv_pending.TheAttempting.{Attempting}
use Rattle.law_refine.specs.Below.fkv_pending.TheAttempting.TheVariants.{Ended, Looks, Tries, Puts}
use Rattle.law_refine.specs.Below.fkv_pending.MailAnswer.{MailAnswer}
use Rattle.law_refine.specs.Below.fkv_pending.MailAnswer.TheVariants as mail
use Rattle.law_refine.specs.Below.fkv_pending.MailRecord.{MailRecord}
use Rattle.law_refine.specs.Below.fkv_pending.MailTask.TheVariants.{Take}
use Rattle.law_refine.specs.Below.fkv_pending.TheMailing.TheVariants as mailing
use Rattle.law_refine.specs.Below.fkv_pending.PendingRequest.{PendingRequest}
use Rattle.law_refine.specs.Below.fkv_pending.Mailing.{mail_ask, mail_next, is_gone, begin_told}
use Rattle.law_refine.specs.Below.fkv_pending.Pending.{with_sought, with_held, with_latch, with_asked, without_gone}
use Rattle.law_refine.specs.Below.fkv_pending.Attempting.{AttemptState, attempt_ended, waits_for_disk, puts_addr, puts, tries, is_seeking_read, goes_on, attempt_begun, held_of, moved_on, read_on, record_taken, goes_anew, mail_taken, look_ledto, held_kept, tried, try_ledto, put_ledto, mail_moved, try_moved, attempting_next, attempt_next, new_attempt}
use Rattle.law_commit.proofs.OfShares.TriesMove.{IsTryMoving, try_next_moving, try_begun_moving}

abbrev pub AttemptMoving : Seen → AttemptState → Attempting → Type 0
AttemptMoving seen a Tries = IsTryMoving seen a.trial
AttemptMoving seen a step = ⊤

pub record IsAttemptMoving (seen : Seen) (a : AttemptState) : Type 0 where
  pub same : a.seen ≡ seen
  pub moving : AttemptMoving seen a a.step

-- where a reply leads
either_moving : (c : Bool) (seen : Seen) (a b : AttemptState) → IsAttemptMoving seen a → IsAttemptMoving seen b → IsAttemptMoving seen (if c then a else b)
either_moving true seen a b one other = one
either_moving false seen a b one other = other

stays_moving : (seen : Seen) (a : AttemptState) (step : Attempting) → a.step ≡ step → a.seen ≡ seen → AttemptMoving seen a step → IsAttemptMoving seen a
stays_moving seen a step at same moving = record { same = same; moving = subst (λ x. AttemptMoving seen a x) (sym at) moving }

puts_moving : (seen : Seen) (a : AttemptState) (sought : Option DiskRecord) → a.seen ≡ seen → IsAttemptMoving seen (puts_addr a sought)
puts_moving seen a None same = record { same = same; moving = tt }
puts_moving seen a (Some sought) same = record { same = same; moving = tt }

tries_moving : (p : Places) (bits : ℕ) (seen : Seen) (a : AttemptState) → a.seen ≡ seen → IsAttemptMoving seen (tries p bits a)
tries_moving p bits seen a same = record { same = same; moving = subst (λ s. IsTryMoving s (tries p bits a).trial) same (try_begun_moving p bits a.pending.request a.seen a.occasion a.spare) }

goes_moving : (p : Places) (bits : ℕ) (seen : Seen) (a : AttemptState) → a.seen ≡ seen → IsAttemptMoving seen (goes_on p bits a)
goes_moving p bits seen a same = either_moving (is_seeking_read a) seen (puts a) (tries p bits a) (puts_moving seen a a.pending.sought same) (tries_moving p bits seen a same)

pub attempt_begun_moving : (p : Places) (bits : ℕ) (pending : PendingRequest) (seen : Seen) (occasion : Occasion) (spare : ℕ) (is_orphaned : Bool) → IsAttemptMoving seen (attempt_begun p bits pending seen occasion spare is_orphaned)
attempt_begun_moving p bits pending seen occasion spare is_orphaned =
    let first : AttemptState = new_attempt bits pending seen occasion spare is_orphaned in
    either_moving pending.has_asked seen (record first { mailing = mailing.LoadsState Take; step = Looks }) (goes_on p bits first) (record { same = refl; moving = tt }) (goes_moving p bits seen first refl)

read_moving : (seen : Seen) (a : AttemptState) (its : MailRecord) (said : HeaderSaid) → a.seen ≡ seen → IsAttemptMoving seen (read_on a its said)
read_moving seen a its Spoiled same = puts_moving seen a a.pending.sought same
read_moving seen a its (Says previous version) same =
    let moved : AttemptState = record a { pending = with_sought a.pending (moved_on a.pending.sought previous) } in
    either_moving (its.key.0 == (key_of a.pending.request.op).0) seen (attempt_ended a (told_value (value_of its.value))) _ (record { same = same; moving = tt })
    (either_moving (is_chain_end a.pending.request.floor previous) seen (attempt_ended a answer.Absent) (puts moved) (record { same = same; moving = tt })
    (puts_moving seen moved moved.pending.sought same))

record_moving : (p : Places) (bits : ℕ) (seen : Seen) (a : AttemptState) (its : MailRecord) (said : HeaderSaid) → a.seen ≡ seen → IsAttemptMoving seen (record_taken p bits a its said)
record_moving p bits seen a its said same =
    let held : AttemptState = record a { pending = with_held a.pending (held_of a.pending.sought its said) } in
    either_moving (is_seeking_read a) seen (read_on a its said) (tries p bits held) (read_moving seen a its said same) (tries_moving p bits seen held same)

anew_moving : (p : Places) (bits : ℕ) (seen : Seen) (a : AttemptState) (begin : Addr) → a.seen ≡ seen → IsAttemptMoving seen (goes_anew p bits a begin)
anew_moving p bits seen a begin same =
    let without : AttemptState = record a { pending = without_gone a.pending begin } in
    either_moving (is_seeking_read a) seen (waits_for_disk without) (tries p bits without) (record { same = same; moving = tt })
    (tries_moving p bits seen without same)

mail_moving : (p : Places) (bits : ℕ) (seen : Seen) (a : AttemptState) (its : MailRecord) → a.seen ≡ seen → IsAttemptMoving seen (mail_taken p bits a its)
mail_moving p bits seen a its same =
    either_moving (is_gone its) seen (goes_anew p bits a (begin_told its)) (record_taken p bits a its (header_said its.header))
    (anew_moving p bits seen a (begin_told its) same) (record_moving p bits seen a its (header_said its.header) same)

look_moving : (p : Places) (bits : ℕ) (seen : Seen) (a : AttemptState) (ask : Ask MailAnswer) → a.step ≡ Looks → a.seen ≡ seen → IsAttemptMoving seen (look_ledto p bits a ask)
unfolding look_ledto
look_moving p bits seen a (Done (mail.Taken its)) at same =
    mail_moving p bits seen (record a { is_emptied = true; pending = with_asked a.pending false }) its same
look_moving p bits seen a (Done other) at same = either_moving (is_seeking_read a) seen (waits_for_disk a) (tries p bits a) (record { same = same; moving = tt }) (tries_moving p bits seen a same)
look_moving p bits seen a ask at same = stays_moving seen a Looks at same tt

put_moving : (seen : Seen) (a : AttemptState) (ask : Ask MailAnswer) → a.step ≡ Puts → a.seen ≡ seen → IsAttemptMoving seen (put_ledto a ask)
unfolding put_ledto
put_moving seen a (Done mail.Asked) at same = record { same = same; moving = tt }
put_moving seen a (Done other) at same = record { same = same; moving = tt }
put_moving seen a ask at same = stays_moving seen a Puts at same tt

tried_moving : (seen : Seen) (a : AttemptState) (its : TryAnswer) → a.seen ≡ seen → IsAttemptMoving seen (tried a its)
tried_moving seen a (answer.AwaitsDisk sought) same =
    let kept : AttemptState = record a { pending = with_held a.pending (held_kept a.pending.request.held sought.entry) } in
    let moved : AttemptState = record kept { pending = with_sought kept.pending (Some sought) } in
    either_moving a.pending.has_asked seen (waits_for_disk kept) (puts moved) (record { same = same; moving = tt }) (puts_moving seen moved moved.pending.sought same)
tried_moving seen a (answer.Wait why) same = record { same = same; moving = tt }
tried_moving seen a its same = record { same = same; moving = tt }

try_ledto_moving : (seen : Seen) (a : AttemptState) (ask : Ask TryAnswer) → a.step ≡ Tries → a.seen ≡ seen → IsTryMoving seen a.trial → IsAttemptMoving seen (try_ledto a ask)
unfolding try_ledto
try_ledto_moving seen a (Done its) at same moving = tried_moving seen (record a { spare = a.trial.spare; pending = with_latch a.pending a.trial.has_shared }) its same
try_ledto_moving seen a ask at same moving = stays_moving seen a Tries at same moving

next_moving : (p : Places) (bits room n : ℕ) (seen : Seen) (a : AttemptState) (step : Attempting) (reply : ℕ) → a.step ≡ step → a.seen ≡ seen → AttemptMoving seen a step → IsAttemptMoving seen (attempting_next p bits room n a step reply)
unfolding attempting_next
next_moving p bits room n seen a (Ended its) reply at same moving = stays_moving seen a (Ended its) at same tt
next_moving p bits room n seen a Looks reply at same moving = look_moving p bits seen (mail_moved a reply) (mail_ask n (mail_next a.mailing reply)) at same
next_moving p bits room n seen a Tries reply at same moving = try_ledto_moving seen (try_moved p room a reply) (try_ask p (try_next p room a.trial reply)) at same (try_next_moving p room seen a.trial reply moving)
next_moving p bits room n seen a Puts reply at same moving = put_moving seen (mail_moved a reply) (mail_ask n (mail_next a.mailing reply)) at same

effect_moving : (seen : Seen) (a : AttemptState) (step : Attempting) → AttemptMoving seen a step → AttemptMoving seen (record a { effect = None }) step
effect_moving seen a Tries moving = moving
effect_moving seen a (Ended its) moving = tt
effect_moving seen a Looks moving = tt
effect_moving seen a Puts moving = tt

-- each reply
pub attempt_next_moving : (p : Places) (bits room n : ℕ) (seen : Seen) (a : AttemptState) (reply : ℕ) → IsAttemptMoving seen a → IsAttemptMoving seen (attempt_next p bits room n a reply)
attempt_next_moving p bits room n seen a reply its = next_moving p bits room n seen (record a { effect = None }) a.step reply refl its.same (effect_moving seen a a.step its.moving)
