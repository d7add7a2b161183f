-- An attempt tells the effect of its try, at the step that makes it.
use Rattle.std.proofs.Common.{◌≡◌, ℕ, List, [], ◌∷◌, refl, ◌∙◌, Bool, true, false}
use Rattle.std.specs.Prelude.{◌==◌, if◌then◌else◌, Option, Some, None}
use Rattle.fkv_map.specs.Keys.{key_of}
use Rattle.fkv_plane.specs.declared.asks.Ask.{Ask}
use Rattle.fkv_plane.specs.declared.asks.Ask.TheVariants.{Done}
use Rattle.fkv_plane.specs.declared.places.Places.{Places}
use Rattle.fkv_ops.specs.declared.answers.DiskRecord.{DiskRecord}
use Rattle.fkv_ops.specs.declared.answers.TryAnswer.{TryAnswer}
use Rattle.fkv_ops.specs.declared.answers.TryAnswer.TheVariants as answer
use Rattle.fkv_ops.specs.declared.header_words.HeaderSaid.{HeaderSaid}
use Rattle.fkv_ops.specs.declared.header_words.HeaderSaid.TheVariants.{Says, Spoiled}
use Rattle.fkv_ops.specs.HeaderWords.{header_said}
use Rattle.fkv_ops.specs.Values.{value_of}
use Rattle.fkv_ops.specs.Trying.{told_value, try_ask, try_next}
use Rattle.fkv_pending.specs.declared.attempting.Attempting.{Attempting}
use Rattle.fkv_pending.specs.declared.attempting.Attempting.TheVariants.{Ended, Looks, Tries, Puts}
use Rattle.fkv_pending.specs.declared.mailing.MailAnswer.{MailAnswer}
use Rattle.fkv_pending.specs.declared.mailing.MailAnswer.TheVariants as mail
use Rattle.fkv_pending.specs.declared.mailing.MailRecord.{MailRecord}
use Rattle.fkv_pending.specs.declared.mailing.MailTask.TheVariants.{Take}
use Rattle.fkv_pending.specs.declared.mailing.Mailing.TheVariants.{LoadsState}
use Rattle.fkv_pending.specs.Mailing.{mail_ask, mail_next, is_gone, begin_told}
use Rattle.fkv_pending.specs.Pending.{with_sought, with_held, with_latch, with_asked, without_gone}
use Rattle.fkv_pending.specs.Attempting.{AttemptState, attempt_ended, waits_for_disk, puts_addr, puts, tries, is_seeking_read, goes_on, held_of, moved_on, read_on, record_taken, not_ready, look_ledto, held_kept, awaits_record, tried, try_ledto, put_ledto, mail_moved, try_moved, attempting_next, new_attempt, mail_taken}
use Rattle.fkv_pending.specs.Attempts.{AttemptGiven, begun_by, run_by, attempt_run, effect_of_try, told_effect}
use Rattle.fkv_ops.specs.Requests.{is_chain_end}

puts_addr_effect : (a : AttemptState) (sought : Option DiskRecord) → (puts_addr a sought).effect ≡ a.effect
puts_addr_effect a None = refl
puts_addr_effect a (Some sought) = refl

puts_effect : (a : AttemptState) → (puts a).effect ≡ a.effect
puts_effect a = puts_addr_effect a a.pending.sought

goes_effect : (p : Places) (bits : ℕ) (a : AttemptState) → (goes_on p bits a).effect ≡ a.effect
goes_effect p bits a = tested (is_seeking_read a)
  where
    tested : (b : Bool) → (if b then puts a else tries p bits a).effect ≡ a.effect
    tested true = puts_effect a
    tested false = refl

begun_effect : (c : AttemptGiven) → (begun_by c).effect ≡ None
begun_effect c = tested c.pending.has_asked
  where
    its : AttemptState
    its = new_attempt c.bits c.pending c.seen c.occasion c.spare c.is_orphaned

    tested : (b : Bool) → (if b then record its { mailing = LoadsState Take; step = Looks } else goes_on c.places c.bits its).effect ≡ None
    tested true = refl
    tested false = goes_effect c.places c.bits its

read_effect : (a : AttemptState) (its : MailRecord) (said : HeaderSaid) → (read_on a its said).effect ≡ a.effect
read_effect a its Spoiled = puts_effect a
read_effect a its (Says previous version) = tested (its.key.0 == (key_of a.pending.request.op).0) (is_chain_end a.pending.request.floor previous)
  where
    on : AttemptState
    on = record a { pending = with_sought a.pending (moved_on a.pending.sought previous) }

    tested : (b c : Bool) → (if b then attempt_ended a (told_value (value_of its.value)) else if c then attempt_ended a answer.Absent else puts on).effect ≡ a.effect
    tested true c = refl
    tested false true = refl
    tested false false = puts_effect on

taken_effect : (p : Places) (bits : ℕ) (a : AttemptState) (its : MailRecord) (said : HeaderSaid) → (record_taken p bits a its said).effect ≡ a.effect
taken_effect p bits a its said = tested (is_seeking_read a)
  where
    tested : (b : Bool) → (if b then read_on a its said else tries p bits (record a { pending = with_held a.pending (held_of a.pending.sought its said) })).effect ≡ a.effect
    tested true = read_effect a its said
    tested false = refl

mail_taken_effect : (p : Places) (bits : ℕ) (a : AttemptState) (its : MailRecord) → (mail_taken p bits a its).effect ≡ a.effect
mail_taken_effect p bits a its = tested (is_gone its) (is_seeking_read a)
  where
    anew : AttemptState
    anew = record a { pending = without_gone a.pending (begin_told its) }

    tested : (b read : Bool) → (if b then (if read then waits_for_disk anew else tries p bits anew) else record_taken p bits a its (header_said its.header)).effect ≡ a.effect
    tested true true = refl
    tested true false = refl
    tested false read = taken_effect p bits a its (header_said its.header)

not_ready_effect : (p : Places) (bits : ℕ) (a : AttemptState) → (not_ready p bits a).effect ≡ a.effect
not_ready_effect p bits a = tested (is_seeking_read a)
  where
    tested : (b : Bool) → (if b then waits_for_disk a else tries p bits a).effect ≡ a.effect
    tested true = refl
    tested false = refl

look_effect : (p : Places) (bits : ℕ) (a : AttemptState) (ask : Ask MailAnswer) → (look_ledto p bits a ask).effect ≡ a.effect
unfolding look_ledto
look_effect p bits a (Done (mail.Taken its)) = mail_taken_effect p bits (record a { is_emptied = true; pending = with_asked a.pending false }) its
look_effect p bits a (Done other) = not_ready_effect p bits a
look_effect p bits a ask = refl

awaits_effect : (a : AttemptState) (sought : DiskRecord) → (awaits_record a sought).effect ≡ a.effect
awaits_effect a sought = tested a.pending.has_asked
  where
    its : AttemptState
    its = record a { pending = with_held a.pending (held_kept a.pending.request.held sought.entry) }

    tested : (b : Bool) → (if b then waits_for_disk its else puts (record its { pending = with_sought its.pending (Some sought) })).effect ≡ a.effect
    tested true = refl
    tested false = puts_effect (record its { pending = with_sought its.pending (Some sought) })

tried_effect : (a : AttemptState) (its : TryAnswer) → (tried a its).effect ≡ a.effect
tried_effect a (answer.AwaitsDisk sought) = awaits_effect a sought
tried_effect a (answer.Wait its) = refl
tried_effect a its = refl

try_effect : (a : AttemptState) (ask : Ask TryAnswer) → (try_ledto a ask).effect ≡ a.effect
unfolding try_ledto
try_effect a (Done its) = tried_effect (record a { spare = a.trial.spare; pending = with_latch a.pending a.trial.has_shared }) its
try_effect a ask = refl

put_effect : (a : AttemptState) (ask : Ask MailAnswer) → (put_ledto a ask).effect ≡ a.effect
unfolding put_ledto
put_effect a (Done mail.Asked) = refl
put_effect a (Done other) = refl
put_effect a ask = refl

next_effect : (c : AttemptGiven) (a : AttemptState) (step : Attempting) (reply : ℕ) → a.effect ≡ None → (attempting_next c.places c.bits c.room c.session a step reply).effect ≡ effect_of_try c a step reply
unfolding attempting_next
next_effect c a (Ended its) reply none = none
next_effect c a Looks reply none = look_effect c.places c.bits (mail_moved a reply) (mail_ask c.session (mail_next a.mailing reply)) ∙ none
next_effect c a Tries reply none = try_effect (try_moved c.places c.room a reply) (try_ask c.places (try_next c.places c.room a.trial reply))
next_effect c a Puts reply none = put_effect (mail_moved a reply) (mail_ask c.session (mail_next a.mailing reply)) ∙ none

same_try : (c : AttemptGiven) (a : AttemptState) (step : Attempting) (reply : ℕ) → effect_of_try c (record a { effect = None }) step reply ≡ effect_of_try c a step reply
same_try c a (Ended its) reply = refl
same_try c a Looks reply = refl
same_try c a Tries reply = refl
same_try c a Puts reply = refl

pub effects_told : (c : AttemptGiven) (replies : List ℕ) → (run_by c replies).effect ≡ told_effect c replies
unfolding attempt_run
effects_told c [] = begun_effect c
effects_told c (reply ∷ others) =
    let a = run_by c others in
    next_effect c (record a { effect = None }) a.step reply refl ∙ same_try c a a.step reply
