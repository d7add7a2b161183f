-- An attempt asks just where it has asks left, and each reply leaves fewer.
use Rattle.std.proofs.Common.{◌≡◌, ℕ, ◌+◌, ◌*◌, ◌<◌, ◌≤◌, ◌∙◌, refl, sym, arith, Bool, true, false}
use Rattle.std.specs.Prelude.{◌==◌, if◌then◌else◌, Option, Some, None}
use Rattle.fkv_map.specs.Keys.{key_of}
use Rattle.fkv_plane.specs.declared.asks.Ask.{Ask}
use Rattle.fkv_plane.specs.declared.asks.Ask.TheVariants.{Done}
use Rattle.fkv_plane.specs.declared.places.Places.{Places}
use Rattle.fkv_plane.proofs.Shown.{passed_done, some_inside, passed_left, sum_most, inside_fewer, behind_fewer}
use Rattle.fkv_ops.specs.declared.answers.DiskRecord.{DiskRecord}
use Rattle.fkv_ops.specs.declared.answers.Reason.TheVariants as reason
use Rattle.fkv_ops.specs.declared.answers.TryAnswer.{TryAnswer}
use Rattle.fkv_ops.specs.declared.answers.TryAnswer.TheVariants as answer
use Rattle.fkv_ops.specs.declared.header_words.HeaderSaid.{HeaderSaid}
use Rattle.fkv_ops.specs.declared.header_words.HeaderSaid.TheVariants.{Says, Spoiled}
use Rattle.fkv_ops.specs.declared.requests.Occasion.{Occasion}
use Rattle.fkv_ops.specs.declared.requests.Seen.{Seen}
use Rattle.fkv_ops.specs.HeaderWords.{header_said}
use Rattle.fkv_ops.specs.Values.{value_of}
use Rattle.fkv_ops.specs.Trying.{told_value, try_ask, try_next}
use Rattle.fkv_plane.specs.AsksLeft.{AsksWhereLeft, sum_left}
use Rattle.fkv_ops.specs.AsksLeft.{try_asks_left}
use Rattle.fkv_ops.proofs.Shown.{try_left, try_begun_left, try_fewer}
use Rattle.fkv_pending.specs.declared.attempting.Attempting.{Attempting}
use Rattle.fkv_pending.specs.declared.attempting.Attempting.TheVariants.{Ended, Looks, Tries, Puts}
use Rattle.fkv_pending.specs.declared.mailing.MailAnswer.{MailAnswer}
use Rattle.fkv_pending.specs.declared.mailing.MailAnswer.TheVariants as mail
use Rattle.fkv_pending.specs.declared.mailing.MailRecord.{MailRecord}
use Rattle.fkv_pending.specs.declared.mailing.MailTask.TheVariants.{Take, Put}
use Rattle.fkv_pending.specs.declared.mailing.Mailing.TheVariants.{LoadsState, StoresAddress}
use Rattle.fkv_pending.specs.declared.pending_requests.PendingRequest.{PendingRequest}
use Rattle.fkv_pending.specs.Mailing.{mail_ask, mail_next, mail_asks_left, is_gone, begin_told}
use Rattle.fkv_pending.specs.Pending.{with_sought, with_held, with_latch, with_asked, without_gone}
use Rattle.fkv_pending.specs.Attempting.{AttemptState, attempting_ask, attempt_ask, attempt_ended, waits_for_disk, puts_addr, puts, tries, is_seeking_read, goes_on, attempt_begun, held_of, moved_on, read_on, record_taken, not_ready, look_ledto, held_kept, awaits_record, tried, try_ledto, put_ledto, mail_moved, try_moved, attempting_next, attempt_next, new_attempt, mail_taken}
use Rattle.fkv_pending.specs.AsksLeft.{most_look_asks, most_try_asks, most_put_asks, attempting_asks_left, attempt_asks_left}
use Rattle.fkv_pending.proofs.MailAsks.{mail_left, mail_fewer}
use Rattle.fkv_ops.specs.Requests.{is_chain_end}

attempting_left : (p : Places) (session : ℕ) (a : AttemptState) (step : Attempting) → AsksWhereLeft (attempting_asks_left p a step) (attempting_ask p session a step)
unfolding attempting_ask attempting_asks_left
attempting_left p session a (Ended its) = (λ e. cc, λ some. absurd (omega (arith, some)))
attempting_left p session a Looks = passed_left (mail_asks_left a.mailing) (most_try_asks p + most_put_asks) (mail_ask session a.mailing) answer.Shift (mail_left session a.mailing)
attempting_left p session a Tries = passed_left (try_asks_left p a.trial) most_put_asks (try_ask p a.trial) answer.Shift (try_left p a.trial)
attempting_left p session a Puts =
    let its = mail_left session a.mailing in
    let same = passed_done (mail_ask session a.mailing) answer.Shift in
    (λ e. its.0 (sym same ∙ e), λ some. same ∙ its.1 some)

-- it asks just where it has asks left
pub attempt_left : (p : Places) (session : ℕ) (a : AttemptState) → AsksWhereLeft (attempt_asks_left p a) (attempt_ask p session a)
attempt_left p session a = attempting_left p session a a.step

pub attempt_asked_left : (p : Places) (session : ℕ) (a : AttemptState) (ask : Ask TryAnswer) → ask ≡ attempt_ask p session a → AsksWhereLeft (attempt_asks_left p a) ask
attempt_asked_left p session a ask e = rw e (attempt_left p session a)

-- each of its parts begins with so many asks at most
puts_addr_left : (p : Places) (a : AttemptState) (sought : Option DiskRecord) → attempt_asks_left p (puts_addr a sought) ≤ most_put_asks
unfolding attempting_asks_left mail_asks_left
puts_addr_left p a None = omega arith
puts_addr_left p a (Some sought) = tested a.is_emptied
  where
    tested : (b : Bool) → mail_asks_left (if b then StoresAddress sought.addr else LoadsState (Put sought.addr)) ≤ most_put_asks
    tested true = omega arith
    tested false = omega arith

puts_left : (p : Places) (a : AttemptState) → attempt_asks_left p (puts a) ≤ most_put_asks
puts_left p a = puts_addr_left p a a.pending.sought

ended_left : (p : Places) (a : AttemptState) (its : TryAnswer) → attempt_asks_left p (attempt_ended a its) ≡ 0
unfolding attempting_asks_left
ended_left p a its = refl

tries_left : (p : Places) (bits : ℕ) (a : AttemptState) → attempt_asks_left p (tries p bits a) ≤ most_try_asks p + most_put_asks
unfolding attempting_asks_left
tries_left p bits a =
    let begun = try_begun_left p bits a.pending.request a.seen a.occasion a.spare in
    let both = sum_most (try_asks_left p (tries p bits a).trial) most_put_asks in
    omega (arith, begun, both)

read_on_left : (p : Places) (a : AttemptState) (its : MailRecord) (said : HeaderSaid) → attempt_asks_left p (read_on a its said) ≤ most_put_asks
read_on_left p a its Spoiled = puts_left p a
read_on_left p a its (Says previous version) = tested (its.key.0 == (key_of a.pending.request.op).0) (is_chain_end a.pending.request.floor previous)
  where
    tested : (b c : Bool)
        → attempt_asks_left p (if b then attempt_ended a (told_value (value_of its.value)) else if c then attempt_ended a answer.Absent else puts (record a { pending = with_sought a.pending (moved_on a.pending.sought previous) })) ≤ most_put_asks
    tested true c = let none = ended_left p a (told_value (value_of its.value)) in omega (arith, none)
    tested false true = let none = ended_left p a answer.Absent in omega (arith, none)
    tested false false = puts_left p (record a { pending = with_sought a.pending (moved_on a.pending.sought previous) })

record_taken_left : (p : Places) (bits : ℕ) (a : AttemptState) (its : MailRecord) (said : HeaderSaid) → attempt_asks_left p (record_taken p bits a its said) ≤ most_try_asks p + most_put_asks
record_taken_left p bits a its said = tested (is_seeking_read a)
  where
    tested : (b : Bool) → attempt_asks_left p (if b then read_on a its said else tries p bits (record a { pending = with_held a.pending (held_of a.pending.sought its said) })) ≤ most_try_asks p + most_put_asks
    tested true = let few = read_on_left p a its said in omega (arith, few)
    tested false = tries_left p bits (record a { pending = with_held a.pending (held_of a.pending.sought its said) })

mail_taken_left : (p : Places) (bits : ℕ) (a : AttemptState) (its : MailRecord) → attempt_asks_left p (mail_taken p bits a its) ≤ most_try_asks p + most_put_asks
mail_taken_left p bits a its = tested (is_gone its) (is_seeking_read a)
  where
    anew : AttemptState
    anew = record a { pending = without_gone a.pending (begin_told its) }

    tested : (b read : Bool) → attempt_asks_left p (if b then (if read then waits_for_disk anew else tries p bits anew) else record_taken p bits a its (header_said its.header)) ≤ most_try_asks p + most_put_asks
    tested true true = let none = ended_left p anew (answer.Wait reason.Disk) in omega (arith, none)
    tested true false = tries_left p bits anew
    tested false read = record_taken_left p bits a its (header_said its.header)

not_ready_left : (p : Places) (bits : ℕ) (a : AttemptState) → attempt_asks_left p (not_ready p bits a) ≤ most_try_asks p + most_put_asks
not_ready_left p bits a = tested (is_seeking_read a)
  where
    tested : (b : Bool) → attempt_asks_left p (if b then waits_for_disk a else tries p bits a) ≤ most_try_asks p + most_put_asks
    tested true = let none = ended_left p a (answer.Wait reason.Disk) in omega (arith, none)
    tested false = tries_left p bits a

goes_on_left : (p : Places) (bits : ℕ) (a : AttemptState) → attempt_asks_left p (goes_on p bits a) ≤ most_try_asks p + most_put_asks
goes_on_left p bits a = tested (is_seeking_read a)
  where
    tested : (b : Bool) → attempt_asks_left p (if b then puts a else tries p bits a) ≤ most_try_asks p + most_put_asks
    tested true = let few = puts_left p a in omega (arith, few)
    tested false = tries_left p bits a

awaits_left : (p : Places) (a : AttemptState) (sought : DiskRecord) → attempt_asks_left p (awaits_record a sought) ≤ most_put_asks
awaits_left p a sought = tested a.pending.has_asked
  where
    its : AttemptState
    its = record a { pending = with_held a.pending (held_kept a.pending.request.held sought.entry) }

    tested : (b : Bool) → attempt_asks_left p (if b then waits_for_disk its else puts (record its { pending = with_sought its.pending (Some sought) })) ≤ most_put_asks
    tested true = let none = ended_left p its (answer.Wait reason.Disk) in omega (arith, none)
    tested false = puts_left p (record its { pending = with_sought its.pending (Some sought) })

tried_left : (p : Places) (a : AttemptState) (its : TryAnswer) → attempt_asks_left p (tried a its) ≤ most_put_asks
unfolding attempting_asks_left
tried_left p a (answer.AwaitsDisk sought) = awaits_left p a sought
tried_left p a (answer.Wait its) = omega arith
tried_left p a its = omega arith

-- all of it
pub attempt_begun_left : (p : Places) (bits : ℕ) (pending : PendingRequest) (seen : Seen) (occasion : Occasion) (spare : ℕ) (is_orphaned : Bool)
    → attempt_asks_left p (attempt_begun p bits pending seen occasion spare is_orphaned) ≤ 8 * (p.overflow + 1) + 2 * p.ring + 31
unfolding attempting_asks_left mail_asks_left
attempt_begun_left p bits pending seen occasion spare is_orphaned = tested pending.has_asked
  where
    its : AttemptState
    its = new_attempt bits pending seen occasion spare is_orphaned

    tested : (b : Bool) → attempt_asks_left p (if b then record its { mailing = LoadsState Take; step = Looks } else goes_on p bits its) ≤ 8 * (p.overflow + 1) + 2 * p.ring + 31
    tested true = let both = sum_most most_look_asks (most_try_asks p + most_put_asks) in omega (arith, both)
    tested false = let few = goes_on_left p bits its in omega (arith, few)

-- one step, by what the machine inside has left

inside_look : (p : Places) (a : AttemptState) (old : ℕ) → a.step ≡ Looks → mail_asks_left a.mailing < old → attempt_asks_left p a < sum_left old (most_try_asks p + most_put_asks)
unfolding attempting_asks_left
inside_look p a old at fewer = rw at (inside_fewer (mail_asks_left a.mailing) old (most_try_asks p + most_put_asks) fewer)

look_fewer : (p : Places) (bits : ℕ) (a : AttemptState) (old : ℕ) (ask : Ask MailAnswer) → a.step ≡ Looks → 0 < old → mail_asks_left a.mailing < old
    → attempt_asks_left p (look_ledto p bits a ask) < sum_left old (most_try_asks p + most_put_asks)
unfolding look_ledto
look_fewer p bits a old (Done (mail.Taken its)) at some fewer =
    behind_fewer _ old (most_try_asks p + most_put_asks) some (mail_taken_left p bits (record a { is_emptied = true; pending = with_asked a.pending false }) its)
look_fewer p bits a old (Done other) at some fewer = behind_fewer _ old (most_try_asks p + most_put_asks) some (not_ready_left p bits a)
look_fewer p bits a old ask at some fewer = inside_look p a old at fewer

inside_try : (p : Places) (a : AttemptState) (old : ℕ) → a.step ≡ Tries → try_asks_left p a.trial < old → attempt_asks_left p a < sum_left old most_put_asks
unfolding attempting_asks_left
inside_try p a old at fewer = rw at (inside_fewer (try_asks_left p a.trial) old most_put_asks fewer)

tried_fewer : (p : Places) (a : AttemptState) (old : ℕ) (ask : Ask TryAnswer) → a.step ≡ Tries → 0 < old → try_asks_left p a.trial < old → attempt_asks_left p (try_ledto a ask) < sum_left old most_put_asks
unfolding try_ledto
tried_fewer p a old (Done its) at some fewer = behind_fewer _ old most_put_asks some (tried_left p (record a { spare = a.trial.spare; pending = with_latch a.pending a.trial.has_shared }) its)
tried_fewer p a old ask at some fewer = inside_try p a old at fewer

inside_put : (p : Places) (a : AttemptState) (old : ℕ) → a.step ≡ Puts → mail_asks_left a.mailing < old → attempt_asks_left p a < old
unfolding attempting_asks_left
inside_put p a old at fewer = rw at fewer

put_fewer : (p : Places) (a : AttemptState) (old : ℕ) (ask : Ask MailAnswer) → a.step ≡ Puts → 0 < old → mail_asks_left a.mailing < old → attempt_asks_left p (put_ledto a ask) < old
unfolding put_ledto attempting_asks_left
put_fewer p a old (Done mail.Asked) at some fewer = some
put_fewer p a old (Done other) at some fewer = some
put_fewer p a old ask at some fewer = inside_put p a old at fewer

mail_falls : (a : AttemptState) (reply : ℕ) → 0 < mail_asks_left a.mailing → mail_asks_left (mail_moved a reply).mailing < mail_asks_left a.mailing
mail_falls a reply some = let fewer = mail_fewer a.mailing reply in omega (arith, fewer, some)

attempting_fewer : (p : Places) (bits room session : ℕ) (a : AttemptState) (step : Attempting) (reply : ℕ) → a.step ≡ step → 0 < attempting_asks_left p a step
    → attempt_asks_left p (attempting_next p bits room session a step reply) < attempting_asks_left p a step
unfolding attempting_next attempting_asks_left
attempting_fewer p bits room session a (Ended its) reply at some = absurd (omega (arith, some))
attempting_fewer p bits room session a Looks reply at some =
    let inside = some_inside (mail_asks_left a.mailing) (most_try_asks p + most_put_asks) some in
    look_fewer p bits (mail_moved a reply) (mail_asks_left a.mailing) (mail_ask session (mail_next a.mailing reply)) at inside (mail_falls a reply inside)
attempting_fewer p bits room session a Tries reply at some =
    let inside = some_inside (try_asks_left p a.trial) most_put_asks some in
    tried_fewer p (try_moved p room a reply) (try_asks_left p a.trial) (try_ask p (try_next p room a.trial reply)) at inside (try_fewer p room a.trial reply inside)
attempting_fewer p bits room session a Puts reply at some =
    put_fewer p (mail_moved a reply) (mail_asks_left a.mailing) (mail_ask session (mail_next a.mailing reply)) at some (mail_falls a reply some)

-- what was told counts for nothing
effect_left : (p : Places) (a : AttemptState) (step : Attempting) → attempting_asks_left p (record a { effect = None }) step ≡ attempting_asks_left p a step
unfolding attempting_asks_left
effect_left p a (Ended its) = refl
effect_left p a Looks = refl
effect_left p a Tries = refl
effect_left p a Puts = refl

-- each reply leaves fewer
pub attempt_fewer : (p : Places) (bits room session : ℕ) (a : AttemptState) (reply : ℕ) → 0 < attempt_asks_left p a → attempt_asks_left p (attempt_next p bits room session a reply) < attempt_asks_left p a
attempt_fewer p bits room session a reply some =
    rw (sym (effect_left p a a.step)) (attempting_fewer p bits room session (record a { effect = None }) a.step reply refl (rw (effect_left p a a.step) some))
