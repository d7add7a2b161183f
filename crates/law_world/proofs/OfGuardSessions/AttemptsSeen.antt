-- An attempt keeps what its session has seen, and so does its try.
use Rattle.std.proofs.Common.{◌≡◌, ℕ, refl, sym, subst, Bool, true, false}
use Rattle.std.specs.Prelude.{if◌then◌else◌, ◌==◌, ⊤, Option, Some, None}
use Rattle.fkv_base.specs.declared.numbers.Addr.{Addr}
use Rattle.fkv_map.specs.Keys.{key_of}
use Rattle.fkv_plane.specs.declared.asks.Ask.{Ask}
use Rattle.fkv_plane.specs.declared.asks.Ask.TheVariants.{Done}
use Rattle.fkv_plane.specs.declared.places.Places.{Places}
use Rattle.fkv_ops.specs.declared.answers.DiskRecord.{DiskRecord}
use Rattle.fkv_ops.specs.declared.answers.TryAnswer.{TryAnswer}
use Rattle.fkv_ops.specs.declared.answers.TryAnswer.TheVariants as answer
use Rattle.fkv_ops.specs.declared.header_words.HeaderSaid.{HeaderSaid}
use Rattle.fkv_ops.specs.declared.header_words.HeaderSaid.TheVariants.{Says, Spoiled}
use Rattle.fkv_ops.specs.declared.requests.Occasion.{Occasion}
use Rattle.fkv_ops.specs.declared.requests.Seen.{Seen}
use Rattle.fkv_ops.specs.HeaderWords.{header_said}
use Rattle.fkv_ops.specs.Requests.{is_chain_end}
use Rattle.fkv_ops.specs.Trying.{try_ask, try_next, told_value}
use Rattle.fkv_ops.specs.Values.{value_of}
use Rattle.fkv_pending.specs.declared.attempting.Attempting.{Attempting}
use Rattle.fkv_pending.specs.declared.attempting.Attempting.TheVariants.{Ended, Looks, Tries, Puts}
use Rattle.fkv_pending.specs.declared.mailing.MailAnswer.{MailAnswer}
use Rattle.fkv_pending.specs.declared.mailing.MailAnswer.TheVariants as mail
use Rattle.fkv_pending.specs.declared.mailing.MailRecord.{MailRecord}
use Rattle.fkv_pending.specs.declared.mailing.MailTask.TheVariants.{Take}
use Rattle.fkv_pending.specs.declared.mailing.Mailing.TheVariants as mailing
use Rattle.fkv_pending.specs.declared.pending_requests.PendingRequest.{PendingRequest}
use Rattle.fkv_pending.specs.Mailing.{mail_ask, mail_next, is_gone, begin_told}
use Rattle.fkv_pending.specs.Pending.{with_sought, with_held, with_latch, with_asked, without_gone}
use Rattle.fkv_pending.specs.Attempting.{AttemptState, attempt_ended, waits_for_disk, puts_addr, puts, tries, is_seeking_read, goes_on, attempt_begun, held_of, moved_on, read_on, record_taken, goes_anew, mail_taken, look_ledto, held_kept, tried, try_ledto, put_ledto, mail_moved, try_moved, attempting_next, attempt_next, new_attempt}
use Rattle.law_world.proofs.OfGuardSessions.TriesSeen.{IsTryAbove, try_next_above, try_begun_above}

abbrev pub AttemptAbove : Seen → AttemptState → Attempting → Type 0
AttemptAbove seen a Tries = IsTryAbove seen a.trial
AttemptAbove seen a step = ⊤

pub record IsAttemptAbove (seen : Seen) (a : AttemptState) : Type 0 where
  pub same : a.seen ≡ seen
  pub above : AttemptAbove seen a a.step

-- where a reply leads
either_above : (c : Bool) (seen : Seen) (a b : AttemptState) → IsAttemptAbove seen a → IsAttemptAbove seen b → IsAttemptAbove seen (if c then a else b)
either_above true seen a b one other = one
either_above false seen a b one other = other

stays_above : (seen : Seen) (a : AttemptState) (step : Attempting) → a.step ≡ step → a.seen ≡ seen → AttemptAbove seen a step → IsAttemptAbove seen a
stays_above seen a step at same above = record { same = same; above = subst (λ x. AttemptAbove seen a x) (sym at) above }

puts_above : (seen : Seen) (a : AttemptState) (sought : Option DiskRecord) → a.seen ≡ seen → IsAttemptAbove seen (puts_addr a sought)
puts_above seen a None same = record { same = same; above = tt }
puts_above seen a (Some sought) same = record { same = same; above = tt }

tries_above : (p : Places) (bits : ℕ) (seen : Seen) (a : AttemptState) → a.seen ≡ seen → IsAttemptAbove seen (tries p bits a)
tries_above p bits seen a same = record { same = same; above = subst (λ s. IsTryAbove s (tries p bits a).trial) same (try_begun_above p bits a.pending.request a.seen a.occasion a.spare) }

goes_above : (p : Places) (bits : ℕ) (seen : Seen) (a : AttemptState) → a.seen ≡ seen → IsAttemptAbove seen (goes_on p bits a)
goes_above p bits seen a same = either_above (is_seeking_read a) seen (puts a) (tries p bits a) (puts_above seen a a.pending.sought same) (tries_above p bits seen a same)

pub attempt_begun_above : (p : Places) (bits : ℕ) (pending : PendingRequest) (seen : Seen) (occasion : Occasion) (spare : ℕ) (is_orphaned : Bool) → IsAttemptAbove seen (attempt_begun p bits pending seen occasion spare is_orphaned)
attempt_begun_above p bits pending seen occasion spare is_orphaned =
    let first : AttemptState = new_attempt bits pending seen occasion spare is_orphaned in
    either_above pending.has_asked seen (record first { mailing = mailing.LoadsState Take; step = Looks }) (goes_on p bits first) (record { same = refl; above = tt }) (goes_above p bits seen first refl)

read_above : (seen : Seen) (a : AttemptState) (its : MailRecord) (said : HeaderSaid) → a.seen ≡ seen → IsAttemptAbove seen (read_on a its said)
read_above seen a its Spoiled same = puts_above seen a a.pending.sought same
read_above seen a its (Says previous version) same =
    let moved : AttemptState = record a { pending = with_sought a.pending (moved_on a.pending.sought previous) } in
    either_above (its.key.0 == (key_of a.pending.request.op).0) seen (attempt_ended a (told_value (value_of its.value))) _ (record { same = same; above = tt })
    (either_above (is_chain_end a.pending.request.floor previous) seen (attempt_ended a answer.Absent) (puts moved) (record { same = same; above = tt }) (puts_above seen moved moved.pending.sought same))

record_above : (p : Places) (bits : ℕ) (seen : Seen) (a : AttemptState) (its : MailRecord) (said : HeaderSaid) → a.seen ≡ seen → IsAttemptAbove seen (record_taken p bits a its said)
record_above p bits seen a its said same =
    let held : AttemptState = record a { pending = with_held a.pending (held_of a.pending.sought its said) } in
    either_above (is_seeking_read a) seen (read_on a its said) (tries p bits held) (read_above seen a its said same) (tries_above p bits seen held same)

-- where the record is gone a read waits, and any other request is tried anew
anew_above : (p : Places) (bits : ℕ) (seen : Seen) (a : AttemptState) (begin : Addr) → a.seen ≡ seen → IsAttemptAbove seen (goes_anew p bits a begin)
anew_above p bits seen a begin same =
    let its : AttemptState = record a { pending = without_gone a.pending begin } in
    either_above (is_seeking_read a) seen (waits_for_disk its) (tries p bits its) (record { same = same; above = tt }) (tries_above p bits seen its same)

mail_above : (p : Places) (bits : ℕ) (seen : Seen) (a : AttemptState) (its : MailRecord) → a.seen ≡ seen → IsAttemptAbove seen (mail_taken p bits a its)
mail_above p bits seen a its same =
    either_above (is_gone its) seen (goes_anew p bits a (begin_told its)) (record_taken p bits a its (header_said its.header))
    (anew_above p bits seen a (begin_told its) same) (record_above p bits seen a its (header_said its.header) same)

look_above : (p : Places) (bits : ℕ) (seen : Seen) (a : AttemptState) (ask : Ask MailAnswer) → a.step ≡ Looks → a.seen ≡ seen → IsAttemptAbove seen (look_ledto p bits a ask)
unfolding look_ledto
look_above p bits seen a (Done (mail.Taken its)) at same = mail_above p bits seen (record a { is_emptied = true; pending = with_asked a.pending false }) its same
look_above p bits seen a (Done other) at same = either_above (is_seeking_read a) seen (waits_for_disk a) (tries p bits a) (record { same = same; above = tt }) (tries_above p bits seen a same)
look_above p bits seen a ask at same = stays_above seen a Looks at same tt

put_above : (seen : Seen) (a : AttemptState) (ask : Ask MailAnswer) → a.step ≡ Puts → a.seen ≡ seen → IsAttemptAbove seen (put_ledto a ask)
unfolding put_ledto
put_above seen a (Done mail.Asked) at same = record { same = same; above = tt }
put_above seen a (Done other) at same = record { same = same; above = tt }
put_above seen a ask at same = stays_above seen a Puts at same tt

tried_above : (seen : Seen) (a : AttemptState) (its : TryAnswer) → a.seen ≡ seen → IsAttemptAbove seen (tried a its)
tried_above seen a (answer.AwaitsDisk sought) same =
    let kept : AttemptState = record a { pending = with_held a.pending (held_kept a.pending.request.held sought.entry) } in
    let moved : AttemptState = record kept { pending = with_sought kept.pending (Some sought) } in
    either_above a.pending.has_asked seen (waits_for_disk kept) (puts moved) (record { same = same; above = tt }) (puts_above seen moved moved.pending.sought same)
tried_above seen a (answer.Wait why) same = record { same = same; above = tt }
tried_above seen a its same = record { same = same; above = tt }

try_ledto_above : (seen : Seen) (a : AttemptState) (ask : Ask TryAnswer) → a.step ≡ Tries → a.seen ≡ seen → IsTryAbove seen a.trial → IsAttemptAbove seen (try_ledto a ask)
unfolding try_ledto
try_ledto_above seen a (Done its) at same above = tried_above seen (record a { spare = a.trial.spare; pending = with_latch a.pending a.trial.has_shared }) its same
try_ledto_above seen a ask at same above = stays_above seen a Tries at same above

next_above : (p : Places) (bits room n : ℕ) (seen : Seen) (a : AttemptState) (step : Attempting) (reply : ℕ) → a.step ≡ step → a.seen ≡ seen → AttemptAbove seen a step → IsAttemptAbove seen (attempting_next p bits room n a step reply)
unfolding attempting_next
next_above p bits room n seen a (Ended its) reply at same above = stays_above seen a (Ended its) at same tt
next_above p bits room n seen a Looks reply at same above = look_above p bits seen (mail_moved a reply) (mail_ask n (mail_next a.mailing reply)) at same
next_above p bits room n seen a Tries reply at same above = try_ledto_above seen (try_moved p room a reply) (try_ask p (try_next p room a.trial reply)) at same (try_next_above p room seen a.trial reply above)
next_above p bits room n seen a Puts reply at same above = put_above seen (mail_moved a reply) (mail_ask n (mail_next a.mailing reply)) at same

effect_above : (seen : Seen) (a : AttemptState) (step : Attempting) → AttemptAbove seen a step → AttemptAbove seen (record a { effect = None }) step
effect_above seen a Tries above = above
effect_above seen a (Ended its) above = tt
effect_above seen a Looks above = tt
effect_above seen a Puts above = tt

-- each reply
pub attempt_next_above : (p : Places) (bits room n : ℕ) (seen : Seen) (a : AttemptState) (reply : ℕ) → IsAttemptAbove seen a → IsAttemptAbove seen (attempt_next p bits room n a reply)
attempt_next_above p bits room n seen a reply its = next_above p bits room n seen (record a { effect = None }) a.step reply refl its.same (effect_above seen a a.step its.above)
