-- The try of a call at each of its steps: all that it has asked the call has asked, and what it has come to.
use Rattle.std.proofs.Common.{◌≡◌, inl, inr, ℕ, List, [], ◌∷◌, refl, sym, ap, subst, ◌∙◌, arith, Bool, true, false}
use Rattle.std.proofs.lemmas.Bool.Decides.{nat_tests}
use Rattle.std.specs.Prelude.{Option, Some, None, if◌then◌else◌, ◌==◌}
use Rattle.fkv_map.specs.declared.operations.Op.{Op}
use Rattle.fkv_plane.specs.declared.asks.Ask.{Ask}
use Rattle.fkv_plane.specs.declared.asks.Ask.TheVariants.{Load, Done}
use Rattle.fkv_plane.specs.declared.places.SharedWord.TheVariants as one
use Rattle.fkv_plane.specs.Places.{shared_place}
use Rattle.fkv_plane.specs.Passing.{passed}
use Rattle.fkv_ops.specs.declared.answers.DiskRecord.{DiskRecord}
use Rattle.fkv_ops.specs.declared.answers.Reason.{Reason}
use Rattle.fkv_ops.specs.declared.answers.Reason.TheVariants as reason
use Rattle.fkv_ops.specs.declared.answers.TryAnswer.{TryAnswer}
use Rattle.fkv_ops.specs.declared.answers.TryAnswer.TheVariants as answer
use Rattle.fkv_ops.specs.declared.requests.Seen.{Seen}
use Rattle.fkv_ops.specs.Reasons.{IsTrue}
use Rattle.fkv_ops.specs.Trying.{TryState, try_ask, try_next}
use Rattle.fkv_ops.specs.TryRun.{Trial, try_run, trial_begun, told_by}
use Rattle.fkv_ops.proofs.Shown.{found_true}
use Rattle.fkv_pending.specs.declared.attempting.Attempting.{Attempting}
use Rattle.fkv_pending.specs.declared.attempting.Attempting.TheVariants.{Ended, Looks, Tries, Puts}
use Rattle.fkv_pending.specs.declared.mailing.MailAnswer.{MailAnswer}
use Rattle.fkv_pending.specs.declared.mailing.MailAnswer.TheVariants as mail
use Rattle.fkv_pending.specs.Mailing.{mail_ask, mail_next}
use Rattle.fkv_pending.specs.Pending.{with_sought, with_held, with_latch}
use Rattle.fkv_pending.specs.Attempting.{AttemptState, puts_addr, puts, held_kept, awaits_record, waits_for_disk, tried, try_ledto, put_ledto, mail_moved, try_moved, attempting_ask, attempting_next}
use Rattle.fkv_session.specs.declared.answers.Told.{Told}
use Rattle.fkv_session.specs.declared.answers.Told.TheVariants as told
use Rattle.fkv_session.specs.CallAsks.{IsAsked, told_in}
use Rattle.fkv_session.specs.InOrder.{Exchange, IsTakenUp, loaded_by, loaded_last}
use Rattle.fkv_session.specs.Sessions.{Seat, bits_of, room_of}
use Rattle.fkv_session.specs.Shares.{HasItsBuckets}
use Rattle.fkv_session.specs.TrueAnswers.{trial_of}
use Rattle.fkv_base.specs.declared.numbers.Addr.{Addr}

-- all that a run of a try has asked is among these asks
abbrev AllAsked : Trial → List Exchange → ℕ → List ℕ → Type 0
AllAsked c asked spare replies = (ask : Ask TryAnswer) (reply : ℕ) → told_by c (trial_begun c spare) replies ask reply → told_in asked ask reply

-- the try has come so far
pub record TryRan (c : Trial) (asked : List Exchange) (t : TryState) : Type 0 where
  pub spare : ℕ
  pub replies : List ℕ
  pub its_run : t ≡ try_run c (trial_begun c spare) replies
  pub all : AllAsked c asked spare replies

-- it has ended so
pub record TryEnded (c : Trial) (asked : List Exchange) (its : TryAnswer) : Type 0 where
  pub spare : ℕ
  pub replies : List ℕ
  pub its_end : try_ask c.places (try_run c (trial_begun c spare) replies) ≡ Done its
  pub all : AllAsked c asked spare replies

-- so its answer is true by these asks
pub ended_true : (c : Trial) (asked : List Exchange) (its : TryAnswer) → TryEnded c asked its → IsTrue c (told_in asked) its
ended_true c asked its ended = found_true c (told_in asked) ended.spare ended.replies its ended.all ended.its_end

-- and stays so as more is asked
pub more_ended : (c : Trial) (asked : List Exchange) (it : Exchange) (its : TryAnswer) → TryEnded c asked its → TryEnded c (it ∷ asked) its
more_ended c asked it its ended = record { spare = ended.spare; replies = ended.replies; its_end = ended.its_end; all = λ ask reply among. inr (ended.all ask reply among) }

pub begun_ran : (c : Trial) (asked : List Exchange) (spare : ℕ) → TryRan c asked (trial_begun c spare)
begun_ran c asked spare = record { spare = spare; replies = []; its_run = refl; all = λ ask reply among. absurd among }

-- a record of the device is awaited
pub record AwaitsOne (c : Trial) (asked : List Exchange) : Type 0 where
  pub it : DiskRecord
  pub ended : TryEnded c asked (answer.AwaitsDisk it)

more_awaits : (c : Trial) (asked : List Exchange) (it : Exchange) → AwaitsOne c asked → AwaitsOne c (it ∷ asked)
more_awaits c asked it awaits = record { it = awaits.it; ended = more_ended c asked it (answer.AwaitsDisk awaits.it) awaits.ended }

-- the session has refreshed in this call
pub record HasRefreshed (asked : List Exchange) : Type 0 where
  pub word : ℕ
  pub loaded : told_in asked (Load (shared_place one.Phase)) word

pub more_refreshed : (asked : List Exchange) (it : Exchange) → HasRefreshed asked → HasRefreshed (it ∷ asked)
more_refreshed asked it has = record { word = has.word; loaded = inr has.loaded }

newest_asked : (it : Exchange) (before : List Exchange) (place word : ℕ) (ask : Ask Told) → it.ask ≡ ask → loaded_by ask it.reply place (loaded_last before place) ≡ Some word → (loaded_last before place ≡ Some word → IsAsked before (Load place) word)
    → IsAsked (it ∷ before) (Load place) word
newest_asked it before place word (Load at) asks loads earlier = by_test (at == place) refl loads
  where
    by_test : (same : Bool) → (at == place) ≡ same → (if same then Some it.reply else loaded_last before place) ≡ Some word → IsAsked (it ∷ before) (Load place) word
    by_test true same loads =
        let there : at ≡ place = grind (arith, nat_tests, same) in
        let reply : it.reply ≡ word = cc in
        inl (asks ∙ ap (λ (n : ℕ). Load n) there, reply)
    by_test false same loads = inr (earlier loads)
newest_asked it before place word ask asks loads earlier = inr (earlier loads)

loaded_asked : (asked : List Exchange) (place word : ℕ) → loaded_last asked place ≡ Some word → IsAsked asked (Load place) word
loaded_asked [] place word e = cc
loaded_asked (it ∷ before) place word e = newest_asked it before place word it.ask refl e (λ loads. loaded_asked before place word loads)

pub has_refreshed : (asked : List Exchange) (before after : Seen) → IsTakenUp before after (loaded_last asked (shared_place one.Phase)) → HasRefreshed asked
unfolding passed
has_refreshed asked before after taken = by_word (loaded_last asked (shared_place one.Phase)) refl taken
  where
    by_word : (its : Option ℕ) → loaded_last asked (shared_place one.Phase) ≡ its → IsTakenUp before after its → HasRefreshed asked
    by_word None e taken = absurd taken
    by_word (Some word) e taken = record { word = word; loaded = loaded_asked asked (shared_place one.Phase) word e }

-- Why the request waits. The second shift is the session's own.
pub data LastTry (c : Trial) (asked : List Exchange) (why : Reason) : Type 0 where
  HasWaited : TryEnded c asked (answer.Wait why) → LastTry c asked why
  HasAwaited : why ≡ reason.Disk → AwaitsOne c asked → LastTry c asked why
  HasShifted : why ≡ reason.Contended → TryEnded c asked answer.Shift → HasRefreshed asked → LastTry c asked why

-- the request waits for one of them
pub record SomeTry (c : Trial) (asked : List Exchange) : Type 0 where
  pub why : Reason
  pub last : LastTry c asked why

pub more_last : (c : Trial) (asked : List Exchange) (it : Exchange) (why : Reason) → LastTry c asked why → LastTry c (it ∷ asked) why
more_last c asked it why (HasWaited ended) = HasWaited (more_ended c asked it (answer.Wait why) ended)
more_last c asked it why (HasAwaited e awaits) = HasAwaited e (more_awaits c asked it awaits)
more_last c asked it why (HasShifted e ended has) = HasShifted e (more_ended c asked it answer.Shift ended) (more_refreshed asked it has)

-- what an attempt has come to
abbrev pub AttemptEnd : Trial → List Exchange → TryAnswer → Type 0
AttemptEnd c asked (answer.Wait why) = LastTry c asked why
AttemptEnd c asked its = TryEnded c asked its

-- An attempt at a call looks into no mailbox.
abbrev pub AttemptAt : Trial → List Exchange → AttemptState → Attempting → Type 0
AttemptAt c asked a (Ended its) = AttemptEnd c asked its
AttemptAt c asked a Looks = ⊥
AttemptAt c asked a Tries = TryRan c asked a.trial
AttemptAt c asked a Puts = AwaitsOne c asked

abbrev pub AttemptNow : Trial → List Exchange → AttemptState → Type 0
AttemptNow c asked a = AttemptAt c asked a a.step

more_end : (c : Trial) (asked : List Exchange) (it : Exchange) (its : TryAnswer) → AttemptEnd c asked its → AttemptEnd c (it ∷ asked) its
more_end c asked it (answer.Wait why) end = more_last c asked it why end
more_end c asked it its end = more_ended c asked it its end

still_now : (c : Trial) (asked : List Exchange) (a : AttemptState) (step : Attempting) → a.step ≡ step → AttemptAt c asked a step → AttemptNow c asked a
still_now c asked a step e at = subst (λ (x : Attempting). AttemptAt c asked a x) (sym e) at

either_now : (b : Bool) (c : Trial) (asked : List Exchange) (one other : AttemptState) → AttemptNow c asked one → AttemptNow c asked other → AttemptNow c asked (if b then one else other)
either_now true c asked one other at at_other = at
either_now false c asked one other at at_other = at_other

puts_now : (c : Trial) (asked : List Exchange) (a : AttemptState) (found : Option DiskRecord) → AwaitsOne c asked → AttemptNow c asked (puts_addr a found)
puts_now c asked a None awaits = HasAwaited refl awaits
puts_now c asked a (Some sought) awaits = awaits

awaits_now : (c : Trial) (asked : List Exchange) (a : AttemptState) (sought : DiskRecord) → AwaitsOne c asked → AttemptNow c asked (awaits_record a sought)
awaits_now c asked a sought awaits =
    let its : AttemptState = record a { pending = with_held a.pending (held_kept a.pending.request.held sought.entry) } in
    let seeks : AttemptState = record its { pending = with_sought its.pending (Some sought) } in
    either_now a.pending.has_asked c asked (waits_for_disk its) (puts seeks) (HasAwaited refl awaits) (puts_now c asked seeks seeks.pending.sought awaits)

tried_now : (c : Trial) (asked : List Exchange) (a : AttemptState) (its : TryAnswer) → TryEnded c asked its → AttemptNow c asked (tried a its)
tried_now c asked a (answer.AwaitsDisk sought) ended = awaits_now c asked a sought (record { it = sought; ended = ended })
tried_now c asked a (answer.Wait why) ended = HasWaited ended
tried_now c asked a (answer.Done reply) ended = ended
tried_now c asked a (answer.Found value) ended = ended
tried_now c asked a answer.Absent ended = ended
tried_now c asked a answer.Shift ended = ended
tried_now c asked a answer.IndexFull ended = ended
tried_now c asked a answer.LogFull ended = ended

-- one more ask of the try
passed_twice : (ask : Ask TryAnswer) → passed (passed ask answer.Shift) told.Slept ≡ passed ask told.Slept
unfolding passed
passed_twice (Done its) = refl
passed_twice ask = refl

module _ (k : Seat) (buckets : HasItsBuckets k) (seen : Seen) (floor : Addr) (op : Op) where
  trial : Trial
  trial = trial_of k buckets seen floor op

  abbrev of_try : TryState → ℕ → Exchange
  of_try t reply = record { ask = passed (passed (try_ask k.places t) answer.Shift) told.Slept; reply = reply }

  next_ran : (asked : List Exchange) (t : TryState) (reply : ℕ) → TryRan (trial_of k buckets seen floor op) asked t → TryRan (trial_of k buckets seen floor op) (of_try t reply ∷ asked) (try_next k.places (room_of k) t reply)
  next_ran asked t reply ran = record {
    spare = ran.spare;
    replies = reply ∷ ran.replies;
    its_run = ap (λ (x : TryState). try_next k.places (room_of k) x reply) ran.its_run;
    all = all;
  }
    where
      all : AllAsked (trial_of k buckets seen floor op) (of_try t reply ∷ asked) ran.spare (reply ∷ ran.replies)
      all ask its (inl same) = inl (passed_twice (try_ask k.places t) ∙ ap (λ (x : Ask TryAnswer). passed x told.Slept) (ap (λ (x : TryState). try_ask k.places x) ran.its_run ∙ same.0), same.1)
      all ask its (inr earlier) = inr (ran.all ask its earlier)

  ran_ended : (asked : List Exchange) (t : TryState) (its : TryAnswer) → TryRan (trial_of k buckets seen floor op) asked t → try_ask k.places t ≡ Done its → TryEnded (trial_of k buckets seen floor op) asked its
  ran_ended asked t its ran e = record { spare = ran.spare; replies = ran.replies; its_end = ap (λ (x : TryState). try_ask k.places x) (sym ran.its_run) ∙ e; all = ran.all }

  try_led : (asked : List Exchange) (a : AttemptState) (ask : Ask TryAnswer) → a.step ≡ Tries → TryRan (trial_of k buckets seen floor op) asked a.trial → try_ask k.places a.trial ≡ ask → AttemptNow (trial_of k buckets seen floor op) asked (try_ledto a ask)
  unfolding try_ledto
  try_led asked a (Done its) e ran asks = tried_now (trial_of k buckets seen floor op) asked (record a { spare = a.trial.spare; pending = with_latch a.pending a.trial.has_shared }) its (ran_ended asked a.trial its ran asks)
  try_led asked a ask e ran asks = still_now (trial_of k buckets seen floor op) asked a Tries e ran

  put_led : (asked : List Exchange) (a : AttemptState) (ask : Ask MailAnswer) → a.step ≡ Puts → AwaitsOne (trial_of k buckets seen floor op) asked → AttemptNow (trial_of k buckets seen floor op) asked (put_ledto a ask)
  unfolding put_ledto
  put_led asked a (Done mail.Asked) e awaits = HasAwaited refl awaits
  put_led asked a (Done other) e awaits = HasAwaited refl awaits
  put_led asked a ask e awaits = still_now (trial_of k buckets seen floor op) asked a Puts e awaits

  -- behind each reply
  pub attempt_goes : (asked : List Exchange) (a : AttemptState) (step : Attempting) (reply : ℕ) → a.step ≡ step → AttemptAt (trial_of k buckets seen floor op) asked a step
      → AttemptNow (trial_of k buckets seen floor op) (record { ask = passed (attempting_ask k.places k.number a step) told.Slept; reply = reply } ∷ asked) (attempting_next k.places (bits_of k) (room_of k) k.number (record a { effect = None }) step reply)
  unfolding attempting_ask attempting_next
  attempt_goes asked a (Ended its) reply e at = still_now (trial_of k buckets seen floor op) _ (record a { effect = None }) (Ended its) e (more_end (trial_of k buckets seen floor op) asked _ its at)
  attempt_goes asked a Looks reply e at = absurd at
  attempt_goes asked a Tries reply e at =
      let quiet : AttemptState = record a { effect = None } in
      try_led (of_try a.trial reply ∷ asked) (try_moved k.places (room_of k) quiet reply) (try_ask k.places (try_next k.places (room_of k) a.trial reply)) e (next_ran asked a.trial reply at) refl
  attempt_goes asked a Puts reply e at =
      let quiet : AttemptState = record a { effect = None } in
      put_led _ (mail_moved quiet reply) (mail_ask k.number (mail_next a.mailing reply)) e (more_awaits (trial_of k buckets seen floor op) asked _ at)
