-- How far a read has come goes along with its attempt.
use Rattle.std.proofs.Common.{◌≡◌, ◌≢◌, ℕ, ◌≤◌, ◌∙◌, refl, sym, ap, subst, Bool, true, false, Option, Some, None}
use Rattle.std.specs.Prelude.{◌==◌, ◌&&◌, if◌then◌else◌}
use Rattle.std.specs.Option.{is_some}
use Rattle.fkv_base.specs.declared.numbers.Addr.{Addr}
use Rattle.fkv_map.specs.Keys.{key_of}
use Rattle.fkv_plane.specs.declared.asks.Ask.{Ask}
use Rattle.fkv_plane.specs.declared.asks.Ask.TheVariants.{Done}
use Rattle.fkv_plane.specs.declared.places.Places.{Places}
use Rattle.fkv_plane.specs.Passing.{passed, is_done}
use Rattle.fkv_index.specs.Slots.{entry_addr}
use Rattle.fkv_latch.specs.declared.latching.LatchTask.TheVariants.{TakeShared}
use Rattle.law_log.specs.Chains.{value_at}
use Rattle.law_log.specs.Begins.{Live}
use Rattle.law_log.specs.Ghosts.{Log, Reading, HasValue, took, first_from}
use Rattle.fkv_ops.specs.declared.answers.DiskRecord.{DiskRecord}
use Rattle.fkv_ops.specs.declared.answers.TryAnswer.{TryAnswer}
use Rattle.fkv_ops.specs.declared.answers.TryAnswer.TheVariants as answer
use Rattle.fkv_ops.specs.declared.header_words.HeaderSaid.{HeaderSaid}
use Rattle.fkv_ops.specs.declared.header_words.HeaderSaid.TheVariants.{Says, Spoiled}
use Rattle.fkv_ops.specs.declared.requests.Occasion.{Occasion}
use Rattle.fkv_ops.specs.declared.requests.Request.{Request}
use Rattle.fkv_ops.specs.declared.requests.Seen.{Seen}
use Rattle.fkv_ops.specs.declared.trying.Trying.TheVariants as try
use Rattle.fkv_ops.specs.HeaderWords.{header_said}
use Rattle.fkv_ops.specs.Requests.{is_read, is_chain_end}
use Rattle.fkv_ops.specs.Values.{value_of}
use Rattle.fkv_ops.specs.Trying.{TryState, with_latch as with_task, walks, wants_shared, try_begun, told_value, try_ask, try_next, new_try}
use Rattle.fkv_pending.specs.declared.attempting.Attempting.{Attempting}
use Rattle.fkv_pending.specs.declared.attempting.Attempting.TheVariants.{Ended, Looks, Tries, Puts}
use Rattle.fkv_pending.specs.declared.mailing.MailAnswer.{MailAnswer}
use Rattle.fkv_pending.specs.declared.mailing.MailAnswer.TheVariants as mail
use Rattle.fkv_pending.specs.declared.mailing.MailRecord.{MailRecord}
use Rattle.fkv_pending.specs.declared.mailing.MailTask.TheVariants.{Take}
use Rattle.fkv_pending.specs.declared.mailing.Mailing.TheVariants.{LoadsState}
use Rattle.fkv_pending.specs.declared.pending_requests.PendingRequest.{PendingRequest}
use Rattle.fkv_pending.specs.Mailing.{mail_ask, mail_next, is_gone, begin_told}
use Rattle.fkv_pending.specs.Pending.{with_sought, with_held, with_latch, with_asked, without_gone}
use Rattle.fkv_pending.specs.Attempting.{AttemptState, attempting_ask, attempt_ask, attempt_ended, waits_for_disk, puts_addr, puts, tries, is_poll, is_seeking_read, goes_on, attempt_begun, held_of, moved_on, read_on, record_taken, goes_anew, mail_taken as mail_led, not_ready, look_ledto, held_kept, tried, try_ledto, put_ledto, attempting_next, attempt_next, new_attempt}
use Rattle.law_local.specs.Tries.OnWay.{IsOrderly}
use Rattle.law_local.specs.Tries.HeldRows.{IsSoughtFrom, SoughtKnows}
use Rattle.law_local.specs.Tries.MailRows.{IsRecordOf, MailKnows}
use Rattle.law_local.specs.Tries.Tells.{ReadTells, TryTells}
use Rattle.law_local.specs.Tries.TryRows.{key_in, head_in, floor_in}
use Rattle.law_local.specs.Tries.WalkRows.{begin_of}
use Rattle.law_local.specs.Tries.AttemptRows.{PendingKnows, AttemptRow, AttemptKnows, IsTrueOfAttempt}
use Rattle.law_local.specs.Tries.ReadRows.{GoesFrom, IsCalledFor, HasRead, TryReads, SoughtReads, AttemptReads, try_starts, attempt_starts, tells_value, started, valued, reading_after}
use Rattle.law_local.proofs.OfTries.Tests.{eq_true, eq_false}
use Rattle.law_local.proofs.OfTries.HeldSteps.{own_read, none_read}
use Rattle.law_local.proofs.OfTries.MailRows.{TakenOf, mail_leads, mail_taken}
use Rattle.law_local.proofs.OfTries.Tells.{read_tells}
use Rattle.law_local.proofs.OfTries.TrialKept.{KeepsRequest, try_kept}
use Rattle.law_local.proofs.OfTries.ReadWalks.{AnswerReads, TryReadsOn, going, try_reads}

-- where a step has come, with the value that the read takes by it
abbrev pub ReadsOn : (ℕ → ℕ) → Log → ℕ → Reading → Places → ℕ → AttemptState → Type 0
ReadsOn home log key reading p session a = AttemptReads key (valued home log reading (tells_value (attempt_ask p session a))) a a.step

quietly : (home : ℕ → ℕ) (log : Log) (key : ℕ) (reading : Reading) (p : Places) (session : ℕ) (a : AttemptState) → tells_value (attempt_ask p session a) ≡ false → AttemptReads key reading a a.step → ReadsOn home log key reading p session a
quietly home log key reading p session a e reads = subst (λ b. AttemptReads key (valued home log reading b) a a.step) (sym e) reads

-- what is under way tells no value
passed_tells : {A : Type 0} (ask : Ask A) → tells_value (passed ask answer.Shift) ≡ false
unfolding passed
passed_tells (Done its) = refl
passed_tells ask = refl

looks_tell : (p : Places) (session : ℕ) (a : AttemptState) → a.step ≡ Looks → tells_value (attempt_ask p session a) ≡ false
unfolding attempting_ask
looks_tell p session a at = ap (λ step. tells_value (attempting_ask p session a step)) at ∙ passed_tells (mail_ask session a.mailing)

puts_tell : (p : Places) (session : ℕ) (a : AttemptState) → a.step ≡ Puts → tells_value (attempt_ask p session a) ≡ false
unfolding attempting_ask
puts_tell p session a at = ap (λ step. tells_value (attempting_ask p session a step)) at ∙ passed_tells (mail_ask session a.mailing)

tries_tell : (p : Places) (session : ℕ) (a : AttemptState) → a.step ≡ Tries → tells_value (attempt_ask p session a) ≡ false
unfolding attempting_ask
tries_tell p session a at = ap (λ step. tells_value (attempting_ask p session a step)) at ∙ passed_tells (try_ask p a.trial)

-- ---- it waits, asks, or has its value
waits_reads : (home : ℕ → ℕ) (log : Log) (key : ℕ) (reading : Reading) (p : Places) (session : ℕ) (a : AttemptState) → SoughtReads key reading a.pending.sought → ReadsOn home log key reading p session (waits_for_disk a)
unfolding attempting_ask
waits_reads home log key reading p session a reads = reads

puts_addr_reads : (home : ℕ → ℕ) (log : Log) (key : ℕ) (reading : Reading) (p : Places) (session : ℕ) (a : AttemptState) (sought : Option DiskRecord) → SoughtReads key reading a.pending.sought → ReadsOn home log key reading p session (puts_addr a sought)
puts_addr_reads home log key reading p session a None reads = waits_reads home log key reading p session a reads
puts_addr_reads home log key reading p session a (Some it) reads = quietly home log key reading p session (puts_addr a (Some it)) (puts_tell p session (puts_addr a (Some it)) refl) reads

puts_reads : (home : ℕ → ℕ) (log : Log) (key : ℕ) (reading : Reading) (p : Places) (session : ℕ) (a : AttemptState) → SoughtReads key reading a.pending.sought → ReadsOn home log key reading p session (puts a)
puts_reads home log key reading p session a reads = puts_addr_reads home log key reading p session a a.pending.sought reads

-- the read takes the value of the first record of its key
took_value : (home : ℕ → ℕ) (log : Log) (key from : ℕ) (reading : Reading) (its : Option ℕ) → GoesFrom reading key from → value_at (log.cells (first_from home log key from)) ≡ its → HasRead (took home log reading) key its
took_value home log key from reading its goes e = (goes.0, ap (took home log) goes.1 ∙ ap (HasValue key goes.0) e)

value_reads : (home : ℕ → ℕ) (log : Log) (key from : ℕ) (reading : Reading) (p : Places) (session : ℕ) (a : AttemptState) (its : Option ℕ) → GoesFrom reading key from → value_at (log.cells (first_from home log key from)) ≡ its
    → ReadsOn home log key reading p session (attempt_ended a (told_value its))
unfolding attempting_ask
value_reads home log key from reading p session a None goes e = took_value home log key from reading None goes e
value_reads home log key from reading p session a (Some its) goes e = took_value home log key from reading (Some its) goes e

-- ---- behind a look into the mailbox
sought_now : (pending : PendingRequest) (sought : Option DiskRecord) → (with_sought pending sought).sought ≡ sought
unfolding with_sought
sought_now pending sought = refl

read_on_reads : (home : ℕ → ℕ) (log : Log) (reading : Reading) (p : Places) (session : ℕ) (a : AttemptState) (it : DiskRecord) (its : MailRecord) (said : HeaderSaid) → IsOrderly home log → a.pending.sought ≡ Some it
    → floor_in a.pending.request ≤ log.fixed → IsSoughtFrom home log (floor_in a.pending.request) (key_in a.pending.request) (head_in a.seen) it → IsRecordOf (floor_in a.pending.request) (log.cells it.addr.0) its → header_said its.header ≡ said → GoesFrom reading (key_in a.pending.request) (entry_addr it.entry)
    → ReadsOn home log (key_in a.pending.request) reading p session (read_on a its said)
read_on_reads home log reading p session a it its Spoiled orderly at over knows of e goes = puts_reads home log (key_in a.pending.request) reading p session a (subst (SoughtReads (key_in a.pending.request) reading) (sym at) goes)
read_on_reads home log reading p session a it its (Says previous version) orderly at over knows of e goes = by_key (its.key.0 == (key_of a.pending.request.op).0) refl
  where
    by_end : (b : Bool) → is_chain_end a.pending.request.floor previous ≡ b → its.key.0 ≢ (key_of a.pending.request.op).0
        → ReadsOn home log (key_in a.pending.request) reading p session (if b then attempt_ended a answer.Absent else puts (record a { pending = with_sought a.pending (moved_on a.pending.sought previous) }))
    by_end true is other = value_reads home log (key_in a.pending.request) (entry_addr it.entry) reading p session a None goes
        (none_read home log a.pending.request.floor (key_in a.pending.request) (head_in a.seen) it its previous version orderly over knows of e other is).absent
    by_end false is other = puts_reads home log (key_in a.pending.request) reading p session (record a { pending = with_sought a.pending (moved_on a.pending.sought previous) })
        (subst (SoughtReads (key_in a.pending.request) reading) (sym (sought_now a.pending (moved_on a.pending.sought previous) ∙ ap (λ sought. moved_on sought previous) at)) goes)

    by_key : (b : Bool) → (its.key.0 == (key_of a.pending.request.op).0) ≡ b
        → ReadsOn home log (key_in a.pending.request) reading p session
        (if b then attempt_ended a (told_value (value_of its.value)) else if is_chain_end a.pending.request.floor previous then attempt_ended a answer.Absent else puts (record a { pending = with_sought a.pending (moved_on a.pending.sought previous) }))
    by_key true is = value_reads home log (key_in a.pending.request) (entry_addr it.entry) reading p session a (value_of its.value) goes
        (sym (own_read home log (floor_in a.pending.request) (key_in a.pending.request) (head_in a.seen) it its orderly.chains knows of (eq_true its.key.0 (key_of a.pending.request.op).0 is)))
    by_key false is = by_end (is_chain_end a.pending.request.floor previous) refl (eq_false its.key.0 (key_of a.pending.request.op).0 is)

-- a read that has asked seeks a record
seeking_reads : (home : ℕ → ℕ) (log : Log) (reading : Reading) (p : Places) (session : ℕ) (a : AttemptState) (sought : Option DiskRecord) (its : MailRecord) → IsOrderly home log → a.pending.sought ≡ sought → is_some sought ≡ true
    → floor_in a.pending.request ≤ log.fixed → SoughtKnows home log (floor_in a.pending.request) (key_in a.pending.request) (head_in a.seen) sought → TakenOf log (floor_in a.pending.request) sought its → SoughtReads (key_in a.pending.request) reading sought → ReadsOn home log (key_in a.pending.request) reading p session (read_on a its (header_said its.header))
seeking_reads home log reading p session a None its orderly at some over knows of goes = cc
seeking_reads home log reading p session a (Some it) its orderly at some over knows of goes = read_on_reads home log reading p session a it its (header_said its.header) orderly at over knows of refl goes

taken_reads : (home : ℕ → ℕ) (log : Log) (reading : Reading) (p : Places) (bits session : ℕ) (a : AttemptState) (its : MailRecord) → IsOrderly home log → is_seeking_read a ≡ true → is_some a.pending.sought ≡ true
    → floor_in a.pending.request ≤ log.fixed → SoughtKnows home log (floor_in a.pending.request) (key_in a.pending.request) (head_in a.seen) a.pending.sought → TakenOf log (floor_in a.pending.request) a.pending.sought its → SoughtReads (key_in a.pending.request) reading a.pending.sought
    → ReadsOn home log (key_in a.pending.request) reading p session (record_taken p bits a its (header_said its.header))
taken_reads home log reading p bits session a its orderly seeks some over knows of goes = by_test (is_seeking_read a) seeks
  where
    by_test : (b : Bool) → b ≡ true
        → ReadsOn home log (key_in a.pending.request) reading p session
        (if b then read_on a its (header_said its.header) else tries p bits (record a { pending = with_held a.pending (held_of a.pending.sought its (header_said its.header)) }))
    by_test true e = seeking_reads home log reading p session a a.pending.sought its orderly refl some over knows of goes
    by_test false e = cc

-- a read whose record is gone has been called for, and seeks none
called_sought : (key : ℕ) (reading : Reading) (sought : Option DiskRecord) → SoughtReads key reading sought → IsCalledFor reading key
called_sought key reading None called = called
called_sought key reading (Some it) goes = going reading key (entry_addr it.entry) goes

anew_reads : (home : ℕ → ℕ) (log : Log) (key : ℕ) (reading : Reading) (p : Places) (bits session : ℕ) (a : AttemptState) (begin : Addr) → is_seeking_read a ≡ true → IsCalledFor reading key → ReadsOn home log key reading p session (goes_anew p bits a begin)
unfolding without_gone
anew_reads home log key reading p bits session a begin seeks called = by_test (is_seeking_read a) seeks
  where
    by_test : (b : Bool) → b ≡ true → ReadsOn home log key reading p session (if b then waits_for_disk (record a { pending = without_gone a.pending begin }) else tries p bits (record a { pending = without_gone a.pending begin }))
    by_test true e = waits_reads home log key reading p session (record a { pending = without_gone a.pending begin }) called
    by_test false e = cc

mail_led_reads : (home : ℕ → ℕ) (log : Log) (reading : Reading) (p : Places) (bits session : ℕ) (a : AttemptState) (its : MailRecord) → IsOrderly home log → is_seeking_read a ≡ true → is_some a.pending.sought ≡ true
    → floor_in a.pending.request ≤ log.fixed → SoughtKnows home log (floor_in a.pending.request) (key_in a.pending.request) (head_in a.seen) a.pending.sought → (its.header ≢ 0 → TakenOf log (floor_in a.pending.request) a.pending.sought its)
    → SoughtReads (key_in a.pending.request) reading a.pending.sought → ReadsOn home log (key_in a.pending.request) reading p session (mail_led p bits a its)
mail_led_reads home log reading p bits session a its orderly seeks some over knows of goes = by_test (is_gone its) refl
  where
    by_test : (b : Bool) → is_gone its ≡ b → ReadsOn home log (key_in a.pending.request) reading p session (if b then goes_anew p bits a (begin_told its) else record_taken p bits a its (header_said its.header))
    by_test true e = anew_reads home log (key_in a.pending.request) reading p bits session a (begin_told its) seeks (called_sought (key_in a.pending.request) reading a.pending.sought goes)
    by_test false e = taken_reads home log reading p bits session a its orderly seeks some over knows (of (eq_false its.header 0 e)) goes

not_ready_reads : (home : ℕ → ℕ) (log : Log) (reading : Reading) (p : Places) (bits session : ℕ) (a : AttemptState) → is_seeking_read a ≡ true → SoughtReads (key_in a.pending.request) reading a.pending.sought
    → ReadsOn home log (key_in a.pending.request) reading p session (not_ready p bits a)
not_ready_reads home log reading p bits session a seeks goes = by_test (is_seeking_read a) seeks
  where
    by_test : (b : Bool) → b ≡ true → ReadsOn home log (key_in a.pending.request) reading p session (if b then waits_for_disk a else tries p bits a)
    by_test true e = waits_reads home log (key_in a.pending.request) reading p session a goes
    by_test false e = cc

look_reads : (home : ℕ → ℕ) (log : Log) (reading : Reading) (p : Places) (bits session : ℕ) (a : AttemptState) (ask : Ask MailAnswer) → IsOrderly home log → a.step ≡ Looks → is_seeking_read a ≡ true → is_some a.pending.sought ≡ true
    → floor_in a.pending.request ≤ log.fixed → SoughtKnows home log (floor_in a.pending.request) (key_in a.pending.request) (head_in a.seen) a.pending.sought → MailKnows log (floor_in a.pending.request) a.pending.sought a.mailing → mail_ask session a.mailing ≡ ask → SoughtReads (key_in a.pending.request) reading a.pending.sought
    → ReadsOn home log (key_in a.pending.request) reading p session (look_ledto p bits a ask)
unfolding look_ledto with_asked
look_reads home log reading p bits session a (Done (mail.Taken its)) orderly at seeks some over knows row e goes =
    mail_led_reads home log reading p bits session (record a { is_emptied = true; pending = with_asked a.pending false }) its orderly seeks some over knows (mail_taken log (floor_in a.pending.request) session a.pending.sought a.mailing its row e) goes
look_reads home log reading p bits session a (Done other) orderly at seeks some over knows row e goes = not_ready_reads home log reading p bits session a seeks goes
look_reads home log reading p bits session a ask orderly at seeks some over knows row e goes =
    quietly home log (key_in a.pending.request) reading p session a (looks_tell p session a at) (subst (AttemptReads (key_in a.pending.request) reading a) (sym at) goes)

-- ---- behind a try
awaits_reads : (home : ℕ → ℕ) (log : Log) (key : ℕ) (reading : Reading) (p : Places) (session : ℕ) (a : AttemptState) (it : DiskRecord) (b : Bool) → b ≡ false → GoesFrom reading key (entry_addr it.entry)
    → ReadsOn home log key reading p session (if b then waits_for_disk (record a { pending = with_held a.pending (held_kept a.pending.request.held it.entry) }) else puts (record a { pending = with_sought (with_held a.pending (held_kept a.pending.request.held it.entry)) (Some it) }))
awaits_reads home log key reading p session a it true none goes = cc
awaits_reads home log key reading p session a it false none goes = puts_reads home log key reading p session (record a { pending = with_sought (with_held a.pending (held_kept a.pending.request.held it.entry)) (Some it) })
    (subst (SoughtReads key reading) (sym (sought_now (with_held a.pending (held_kept a.pending.request.held it.entry)) (Some it))) goes)

tried_reads : (home : ℕ → ℕ) (log : Log) (request : Request) (seen : Seen) (from : ℕ) (reading : Reading) (p : Places) (session : ℕ) (a : AttemptState) (its : TryAnswer) → a.pending.has_asked ≡ false → a.pending.sought ≡ None
    → AnswerReads (key_in request) reading from its → ReadTells home log request seen from its → ReadsOn home log (key_in request) reading p session (tried a its)
unfolding attempting_ask
tried_reads home log request seen from reading p session a (answer.AwaitsDisk it) asked none goes tells =
    awaits_reads home log (key_in request) reading p session a it a.pending.has_asked asked (subst (GoesFrom reading (key_in request)) (sym tells.0) goes)
tried_reads home log request seen from reading p session a (answer.Wait its) asked none goes tells = subst (SoughtReads (key_in request) reading) (sym none) goes
tried_reads home log request seen from reading p session a (answer.Found its) asked none goes tells = took_value home log (key_in request) from reading (Some its.0) goes tells
tried_reads home log request seen from reading p session a answer.Absent asked none goes tells = took_value home log (key_in request) from reading None goes tells
tried_reads home log request seen from reading p session a (answer.Done its) asked none goes tells = subst (SoughtReads (key_in request) reading) (sym none) goes
tried_reads home log request seen from reading p session a answer.Shift asked none goes tells = subst (SoughtReads (key_in request) reading) (sym none) goes
tried_reads home log request seen from reading p session a answer.IndexFull asked none goes tells = subst (SoughtReads (key_in request) reading) (sym none) goes
tried_reads home log request seen from reading p session a answer.LogFull asked none goes tells = subst (SoughtReads (key_in request) reading) (sym none) goes

asked_latched : (pending : PendingRequest) (b : Bool) → (with_latch pending b).has_asked ≡ pending.has_asked
unfolding with_latch
asked_latched pending b = refl

sought_latched : (pending : PendingRequest) (b : Bool) → (with_latch pending b).sought ≡ pending.sought
unfolding with_latch
sought_latched pending b = refl

try_led_reads : (home : ℕ → ℕ) (log : Log) (request : Request) (reading : Reading) (p : Places) (session : ℕ) (a : AttemptState) (ask : Ask TryAnswer) → a.step ≡ Tries → a.pending.has_asked ≡ false → a.pending.sought ≡ None → a.trial.request ≡ request
    → TryReadsOn (key_in request) reading p a.trial → TryTells home log p a.trial → try_ask p a.trial ≡ ask → ReadsOn home log (key_in request) reading p session (try_ledto a ask)
unfolding try_ledto
try_led_reads home log request reading p session a (Done its) at asked none same reads tells e =
    tried_reads home log request a.trial.seen (begin_of a.trial.walk) reading p session (record a { spare = a.trial.spare; pending = with_latch a.pending a.trial.has_shared }) its (asked_latched a.pending a.trial.has_shared ∙ asked)
    (sought_latched a.pending a.trial.has_shared ∙ none) (reads.answers its e) (subst (λ (r : Request). ReadTells home log r a.trial.seen (begin_of a.trial.walk) its) same (tells its e))
try_led_reads home log request reading p session a ask at asked none same reads tells e =
    quietly home log (key_in request) reading p session a (tries_tell p session a at) (subst (AttemptReads (key_in request) reading a) (sym at) (none, reads.row))

-- ---- behind an ask of the mailbox
put_reads : (home : ℕ → ℕ) (log : Log) (key : ℕ) (reading : Reading) (p : Places) (session : ℕ) (a : AttemptState) (ask : Ask MailAnswer) → a.step ≡ Puts → SoughtReads key reading a.pending.sought → ReadsOn home log key reading p session (put_ledto a ask)
unfolding put_ledto with_asked
put_reads home log key reading p session a (Done mail.Asked) at goes = waits_reads home log key reading p session (record a { pending = with_asked a.pending true }) goes
put_reads home log key reading p session a (Done other) at goes = waits_reads home log key reading p session a goes
put_reads home log key reading p session a ask at goes = quietly home log key reading p session a (puts_tell p session a at) (subst (AttemptReads key reading a) (sym at) goes)

-- ---- by the control state
done_passed : {A B : Type 0} (ask : Ask A) (b : B) → is_done (passed ask b) ≡ false → is_done ask ≡ false
unfolding passed
done_passed (Done its) b e = cc
done_passed ask b e = refl

done_not : {X : Type 0} {A : Type 0} (its : A) → is_done (Done its) ≡ false → X
done_not its e = cc

ended_not : {X : Type 0} (p : Places) (session : ℕ) (a : AttemptState) (its : TryAnswer) → is_done (attempting_ask p session a (Ended its)) ≡ false → X
unfolding attempting_ask
ended_not p session a its e = done_not its e

trial_asks : (p : Places) (session : ℕ) (a : AttemptState) → is_done (attempting_ask p session a Tries) ≡ false → is_done (passed (try_ask p a.trial) answer.Shift) ≡ false
unfolding attempting_ask
trial_asks p session a e = e

all_true : (poll read some : Bool) → (poll ≡ true) × (some ≡ true) → read ≡ true → (poll && (read && some)) ≡ true
all_true poll read some both reads = rw (both.0, reads, both.1) refl

row_reads : (home : ℕ → ℕ) (log : Log) (p : Places) (bits room session : ℕ) (reading : Reading) (a : AttemptState) (step : Attempting) (reply : ℕ) → IsOrderly home log → Live (floor_in a.pending.request) home log → a.step ≡ step → is_read a.pending.request.op ≡ true
    → is_done (attempting_ask p session a step) ≡ false → PendingKnows home log a.pending a.seen → AttemptRow home log a step → IsTrueOfAttempt home log p a step reply → AttemptReads (key_in a.pending.request) reading a step
    → ReadsOn home log (key_in a.pending.request) (started home log reading (attempt_starts p a step reply)) p session (attempting_next p bits room session (record a { effect = None }) step reply)
unfolding attempting_next
row_reads home log p bits room session reading a (Ended its) reply orderly live at reads asks pending row says goes = ended_not p session a its asks
row_reads home log p bits room session reading a Looks reply orderly live at reads asks pending row says goes =
    look_reads home log reading p bits session (record a { effect = None; mailing = mail_next a.mailing reply }) (mail_ask session (mail_next a.mailing reply)) orderly at
    (all_true (is_poll a.occasion) (is_read a.pending.request.op) (is_some a.pending.sought) (row.1 reads row.0) reads) (row.1 reads row.0).1 pending.request.low_floor pending.sought
    (mail_leads home log (floor_in a.pending.request) (key_in a.pending.request) (head_in a.seen) a.pending.sought a.mailing reply orderly.chains pending.sought row.2 says) refl goes
row_reads home log p bits room session reading a Tries reply orderly live at reads asks pending row says goes =
    try_led_reads home log a.pending.request (started home log reading (try_starts p a.trial a.trial.step reply)) p session (record a { effect = (try_next p room a.trial reply).effect; trial = try_next p room a.trial reply }) (try_ask p (try_next p room a.trial reply)) at
    (row.not_asked reads) goes.0 (kept.request ∙ row.its_request)
    (subst (λ (r : Request). TryReadsOn (key_in r) (started home log reading (try_starts p a.trial a.trial.step reply)) p (try_next p room a.trial reply)) row.its_request
    (try_reads home log p room reading a.trial reply row.knows its_reads (done_passed (try_ask p a.trial) answer.Shift under_way) says (subst (λ (r : Request). TryReads (key_in r) reading a.trial a.trial.step) (sym row.its_request) goes.1)))
    (read_tells home log p room a.trial reply orderly (subst (λ (r : Request). Live (floor_in r) home log) (sym row.its_request) live) row.knows its_reads (done_passed (try_ask p a.trial) answer.Shift under_way) says) refl
  where
    kept : KeepsRequest a.trial (try_next p room a.trial reply)
    kept = try_kept p room a.trial reply

    its_reads : is_read a.trial.request.op ≡ true
    its_reads = ap (λ (r : Request). is_read r.op) row.its_request ∙ reads

    under_way : is_done (passed (try_ask p a.trial) answer.Shift) ≡ false
    under_way = trial_asks p session a asks
row_reads home log p bits room session reading a Puts reply orderly live at reads asks pending row says goes =
    put_reads home log (key_in a.pending.request) reading p session (record a { effect = None; mailing = mail_next a.mailing reply }) (mail_ask session (mail_next a.mailing reply)) at goes

pub attempt_reads : (home : ℕ → ℕ) (log : Log) (p : Places) (bits room session : ℕ) (reading : Reading) (a : AttemptState) (reply : ℕ) → IsOrderly home log → Live (floor_in a.pending.request) home log → AttemptKnows home log a → is_read a.pending.request.op ≡ true → is_done (attempt_ask p session a) ≡ false
    → IsTrueOfAttempt home log p a a.step reply → AttemptReads (key_in a.pending.request) reading a a.step
    → AttemptReads (key_in a.pending.request) (reading_after home log p bits room session a reply reading) (attempt_next p bits room session a reply) (attempt_next p bits room session a reply).step
attempt_reads home log p bits room session reading a reply orderly live knows reads asks says goes = row_reads home log p bits room session reading a a.step reply orderly live refl reads asks knows.pending knows.row says goes

-- ---- as an attempt begins
trial_reads : (key : ℕ) (reading : Reading) (p : Places) (t : TryState) (b : Bool) → IsCalledFor reading key → TryReads key reading (if b then with_task p t TakeShared try.TakesShared else walks p t) (if b then with_task p t TakeShared try.TakesShared else walks p t).step
trial_reads key reading p t true called = tt
trial_reads key reading p t false called = called

begun_reads : (key : ℕ) (reading : Reading) (p : Places) (bits : ℕ) (request : Request) (seen : Seen) (occasion : Occasion) (spare : ℕ) → IsCalledFor reading key
    → TryReads key reading (try_begun p bits request seen occasion spare) (try_begun p bits request seen occasion spare).step
begun_reads key reading p bits request seen occasion spare called =
    let its : TryState = new_try bits request seen occasion spare in
    trial_reads key reading p its (wants_shared its) called

none_sought : (poll read : Bool) (sought : Option DiskRecord) → (poll ≡ false → sought ≡ None) → read ≡ true → (poll && (read && is_some sought)) ≡ false → sought ≡ None
none_sought false read sought fresh reads e = fresh refl
none_sought true true None fresh reads e = refl
none_sought true true (Some it) fresh reads e = cc
none_sought true false sought fresh reads e = cc

puts_begin : (key : ℕ) (reading : Reading) (a : AttemptState) (sought : Option DiskRecord) → SoughtReads key reading a.pending.sought → AttemptReads key reading (puts_addr a sought) (puts_addr a sought).step
puts_begin key reading a None goes = goes
puts_begin key reading a (Some it) goes = goes

goes_on_reads : (key : ℕ) (reading : Reading) (p : Places) (bits : ℕ) (a : AttemptState) → is_read a.pending.request.op ≡ true → (is_poll a.occasion ≡ false → a.pending.sought ≡ None) → SoughtReads key reading a.pending.sought
    → AttemptReads key reading (goes_on p bits a) (goes_on p bits a).step
goes_on_reads key reading p bits a reads fresh goes = by_test (is_seeking_read a) refl
  where
    by_test : (b : Bool) → is_seeking_read a ≡ b → AttemptReads key reading (if b then puts a else tries p bits a) (if b then puts a else tries p bits a).step
    by_test true e = puts_begin key reading a a.pending.sought goes
    by_test false e = (
      none_sought (is_poll a.occasion) (is_read a.pending.request.op) a.pending.sought fresh reads e,
      begun_reads key reading p bits a.pending.request a.seen a.occasion a.spare (called_sought key reading a.pending.sought goes),
    )

begun_at : (key : ℕ) (reading : Reading) (p : Places) (bits : ℕ) (a : AttemptState) (b : Bool) → is_read a.pending.request.op ≡ true → (is_poll a.occasion ≡ false → a.pending.sought ≡ None) → SoughtReads key reading a.pending.sought
    → AttemptReads key reading (if b then record a { mailing = LoadsState Take; step = Looks } else goes_on p bits a) (if b then record a { mailing = LoadsState Take; step = Looks } else goes_on p bits a).step
begun_at key reading p bits a true reads fresh goes = goes
begun_at key reading p bits a false reads fresh goes = goes_on_reads key reading p bits a reads fresh goes

-- a call's read seeks no record yet
pub reads_begin : (key : ℕ) (reading : Reading) (p : Places) (bits : ℕ) (pending : PendingRequest) (seen : Seen) (occasion : Occasion) (spare : ℕ) (is_orphaned : Bool) → is_read pending.request.op ≡ true
    → (is_poll occasion ≡ false → pending.sought ≡ None) → SoughtReads key reading pending.sought
    → AttemptReads key reading (attempt_begun p bits pending seen occasion spare is_orphaned) (attempt_begun p bits pending seen occasion spare is_orphaned).step
reads_begin key reading p bits pending seen occasion spare is_orphaned reads fresh goes =
    begun_at key reading p bits (new_attempt bits pending seen occasion spare is_orphaned) pending.has_asked reads fresh goes
