-- How far a machine has come tells the task that it is about, and each step is true to the words that the task has met.
use Rattle.std.proofs.Common.{◌≡◌, ℕ, ◌+◌, ◌-◌, ◌%◌, ◌^◌, ◌<◌, ◌≤◌, ◌∙◌, List, [], ◌∷◌, length, refl, arith, sym, subst, Bool, true, false, eqb-true}
use Rattle.std.specs.Prelude.{Option, Some, None, ◌==◌, ◌||◌, nat_lt, not, if◌then◌else◌, MatchBool}
use Rattle.std.proofs.lemmas.Bool.Decides.{nat_tests}
use Rattle.std.proofs.lemmas.List.{get_or-set_same, get_or-set_other, set-get_or}
use Rattle.fkv_words.specs.Fields.{bit_of}
use Rattle.fkv_words.specs.Layout.{tail_word}
use Rattle.fkv_words.specs.declared.bucket_tail.BucketTail.{BucketTail}
use Rattle.fkv_plane.specs.Asked.{word_at, words_after, reply_to}
use Rattle.fkv_plane.specs.Passing.{is_done}
use Rattle.fkv_plane.specs.declared.asks.Ask.TheVariants.{Done}
use Rattle.fkv_latch.specs.declared.latching.LatchAnswer.TheVariants.{Taken, Busy}
use Rattle.fkv_latch.specs.declared.latching.LatchTask.{LatchTask}
use Rattle.fkv_latch.specs.declared.latching.LatchTask.TheVariants.{TakeShared, DropShared, TakeExclusive, DropExclusive}
use Rattle.fkv_latch.specs.declared.latching.Latching.{Latching}
use Rattle.fkv_latch.specs.declared.latching.Latching.TheVariants.{AtRest, AddsShare, GivesBack, DropsShare, LoadsWord, SetsExclusive, DropsExclusive}
use Rattle.fkv_latch.specs.Latching.{IsLatchInRange, is_exclusive, is_free, latch_ask, latch_next, latch_next_ask}
use Rattle.fkv_latch.specs.LatchWorld.{LatchActor, given, replied}
use Rattle.fkv_latch.specs.Tasks.{TaskUnderWay, task_moved, IsHeldAlone, IsHeldByNobody, LeadsAlike, shared_after, exclusive_after, IsTrueStep}
use Rattle.fkv_latch.proofs.Actors.{actor_of}
use Rattle.fkv_latch.proofs.Steps.{one_here}
use Rattle.fkv_latch.proofs.Tails.{HasTail, exclusive_test, free_test, share_more, share_less, bit_more, bit_less}

abbrev pub task_with : LatchTask → ℕ → List ℕ → TaskUnderWay
task_with task place met = record { task = task; place = place; met = met }

-- a share that met one who holds the latch alone
pub record HasMetOne (place : ℕ) (t : Option TaskUnderWay) : Type 0 where
  pub first : ℕ
  pub its_task : t ≡ Some (task_with TakeShared place (first ∷ []))
  pub alone : IsHeldAlone first

-- the task of a machine that has come so far
abbrev pub KnowsTask : Latching → Option TaskUnderWay → Type 0
KnowsTask AtRest t = t ≡ None
KnowsTask (AddsShare q) t = t ≡ Some (task_with TakeShared q [])
KnowsTask (GivesBack q) t = HasMetOne q t
KnowsTask (DropsShare q) t = t ≡ Some (task_with DropShared q [])
KnowsTask (LoadsWord q) t = t ≡ Some (task_with TakeExclusive q [])
KnowsTask (SetsExclusive q word) t = (t ≡ Some (task_with TakeExclusive q (word ∷ []))) × IsHeldByNobody word
KnowsTask (DropsExclusive q) t = t ≡ Some (task_with DropExclusive q [])

-- the latch on which a machine works
abbrev pub AtLatch : ℕ → Latching → Type 0
AtLatch q AtRest = ⊥
AtLatch q (AddsShare place) = q ≡ place
AtLatch q (GivesBack place) = q ≡ place
AtLatch q (DropsShare place) = q ≡ place
AtLatch q (LoadsWord place) = q ≡ place
AtLatch q (SetsExclusive place word) = q ≡ place
AtLatch q (DropsExclusive place) = q ≡ place

the_task : (t t' : TaskUnderWay) → Some t ≡ Some t' → t ≡ t'
the_task t t' e = cc

-- an actor's step over these words
abbrev pub StepIsTrue : List ℕ → LatchActor → TaskUnderWay → Type 0
StepIsTrue words a t = IsTrueStep words (words_after words (latch_ask a.step)) a (replied a (reply_to words (latch_ask a.step))) t

adds_true : (words : List ℕ) (q : ℕ) (shared exclusive : List ℕ) → q < length words → HasTail words q (actor_of (AddsShare q) shared exclusive)
    → StepIsTrue words (actor_of (AddsShare q) shared exclusive) (task_with TakeShared q [])
unfolding latch_ask latch_next latch_next_ask
adds_true words q shared exclusive enough has =
    let same = exclusive_test has.tail (word_at words q) has.its_word in
    record {
      tail = has.tail;
      its_word = has.its_word;
      true_to_words = rw same (answers has.tail.exclusive);
      leaves = rw (get_or-set_same words q ((word_at words q + 2 ^ 48) % 2 ^ 64) 0 enough) (share_more has.tail (word_at words q) has.its_word has.few);
      others = λ place other. get_or-set_other words q place _ 0 other;
      shares = shares (is_exclusive (word_at words q));
      holds_alone = holds (is_exclusive (word_at words q));
    }
  where
    answers : (b : Bool) → MatchBool b (is_done (if b then latch_ask (GivesBack q) else Done Taken) ≡ false) ((if b then latch_ask (GivesBack q) else Done Taken) ≡ Done Taken)
    answers true = refl
    answers false = refl

    shares : (b : Bool) → (given (AddsShare q) (if b then latch_ask (GivesBack q) else Done Taken) (actor_of (if b then GivesBack q else AtRest) shared exclusive)).shared
        ≡ shared_after TakeShared q (if b then latch_ask (GivesBack q) else Done Taken) shared
    shares true = refl
    shares false = refl

    holds : (b : Bool) → (given (AddsShare q) (if b then latch_ask (GivesBack q) else Done Taken) (actor_of (if b then GivesBack q else AtRest) shared exclusive)).exclusive
        ≡ exclusive_after TakeShared q (if b then latch_ask (GivesBack q) else Done Taken) exclusive
    holds true = refl
    holds false = refl

-- the second step of a share that has met one: it takes off what it added
gives_true : (words : List ℕ) (q first : ℕ) (shared exclusive : List ℕ) → q < length words → IsHeldAlone first → HasTail words q (actor_of (GivesBack q) shared exclusive)
    → StepIsTrue words (actor_of (GivesBack q) shared exclusive) (task_with TakeShared q (first ∷ []))
unfolding latch_ask latch_next latch_next_ask
gives_true words q first shared exclusive enough alone has =
    let one = one_here q in
    let some : 0 < has.tail.shared = omega (arith, has.own_shares, one) in
    record {
      tail = has.tail;
      its_word = has.its_word;
      true_to_words = (alone, refl);
      leaves = (some, rw (get_or-set_same words q ((word_at words q + (2 ^ 64 - 2 ^ 48)) % 2 ^ 64) 0 enough) (share_less has.tail (word_at words q) has.its_word has.few some));
      others = λ place other. get_or-set_other words q place _ 0 other;
      shares = refl;
      holds_alone = refl;
    }

drops_true : (words : List ℕ) (q : ℕ) (shared exclusive : List ℕ) → q < length words → HasTail words q (actor_of (DropsShare q) shared exclusive)
    → StepIsTrue words (actor_of (DropsShare q) shared exclusive) (task_with DropShared q [])
unfolding latch_ask latch_next latch_next_ask
drops_true words q shared exclusive enough has =
    let one = one_here q in
    let some : 0 < has.tail.shared = omega (arith, has.own_shares, one) in
    record {
      tail = has.tail;
      its_word = has.its_word;
      true_to_words = refl;
      leaves = (some, rw (get_or-set_same words q ((word_at words q + (2 ^ 64 - 2 ^ 48)) % 2 ^ 64) 0 enough) (share_less has.tail (word_at words q) has.its_word has.few some));
      others = λ place other. get_or-set_other words q place _ 0 other;
      shares = refl;
      holds_alone = refl;
    }

loads_true : (words : List ℕ) (q : ℕ) (shared exclusive : List ℕ) → HasTail words q (actor_of (LoadsWord q) shared exclusive)
    → StepIsTrue words (actor_of (LoadsWord q) shared exclusive) (task_with TakeExclusive q [])
unfolding latch_ask latch_next latch_next_ask
loads_true words q shared exclusive has =
    let same = free_test has.tail (word_at words q) has.its_word in
    record {
      tail = has.tail;
      its_word = has.its_word;
      true_to_words = rw same (answers (has.tail.exclusive || nat_lt 0 has.tail.shared));
      leaves = rw (set-get_or words q 0) has.its_word;
      others = λ place other. rw (set-get_or words q 0) refl;
      shares = shares (is_free (word_at words q));
      holds_alone = holds (is_free (word_at words q));
    }
  where
    answers : (b : Bool) → MatchBool b ((if not b then latch_ask (SetsExclusive q (word_at words q)) else Done Busy) ≡ Done Busy)
        (is_done (if not b then latch_ask (SetsExclusive q (word_at words q)) else Done Busy) ≡ false)
    answers true = refl
    answers false = refl

    shares : (b : Bool) → (given (LoadsWord q) (if b then latch_ask (SetsExclusive q (word_at words q)) else Done Busy) (actor_of (if b then SetsExclusive q (word_at words q) else AtRest) shared exclusive)).shared
        ≡ shared_after TakeExclusive q (if b then latch_ask (SetsExclusive q (word_at words q)) else Done Busy) shared
    shares true = refl
    shares false = refl

    holds : (b : Bool) → (given (LoadsWord q) (if b then latch_ask (SetsExclusive q (word_at words q)) else Done Busy) (actor_of (if b then SetsExclusive q (word_at words q) else AtRest) shared exclusive)).exclusive
        ≡ exclusive_after TakeExclusive q (if b then latch_ask (SetsExclusive q (word_at words q)) else Done Busy) exclusive
    holds true = refl
    holds false = refl

sets_true : (words : List ℕ) (q word : ℕ) (shared exclusive : List ℕ) → q < length words → word < 2 ^ 48 → IsHeldByNobody word → HasTail words q (actor_of (SetsExclusive q word) shared exclusive)
    → StepIsTrue words (actor_of (SetsExclusive q word) shared exclusive) (task_with TakeExclusive q (word ∷ []))
unfolding latch_ask latch_next latch_next_ask
sets_true words q word shared exclusive enough free nobody has = record {
  tail = has.tail;
  its_word = has.its_word;
  true_to_words = (nobody, rw (sym has.its_word) (answers (word_at words q == word)));
  leaves = rw (get_or-set_same words q (if word_at words q == word then word + 2 ^ 63 else word_at words q) 0 enough) (rw (sym has.its_word) (left (word_at words q == word) refl));
  others = λ place other. get_or-set_other words q place _ 0 other;
  shares = shares (word_at words q == word);
  holds_alone = holds (word_at words q == word);
}
  where
    answers : (b : Bool) → MatchBool b (Done (if b then Taken else Busy) ≡ Done Taken) (Done (if b then Taken else Busy) ≡ Done Busy)
    answers true = refl
    answers false = refl

    left : (b : Bool) → (word_at words q == word) ≡ b → MatchBool b (LeadsAlike has.tail 0 true (if b then word + 2 ^ 63 else word_at words q)) ((if b then word + 2 ^ 63 else word_at words q) ≡ word_at words q)
    left true e = bit_more has.tail word (sym (eqb-true (word_at words q) word e) ∙ has.its_word) free
    left false e = refl

    shares : (b : Bool) → (given (SetsExclusive q word) (Done (if b then Taken else Busy)) (actor_of AtRest shared exclusive)).shared ≡ shared_after TakeExclusive q (Done (if b then Taken else Busy)) shared
    shares true = refl
    shares false = refl

    holds : (b : Bool) → (given (SetsExclusive q word) (Done (if b then Taken else Busy)) (actor_of AtRest shared exclusive)).exclusive ≡ exclusive_after TakeExclusive q (Done (if b then Taken else Busy)) exclusive
    holds true = refl
    holds false = refl

clears_true : (words : List ℕ) (q : ℕ) (shared exclusive : List ℕ) → q < length words → HasTail words q (actor_of (DropsExclusive q) shared exclusive)
    → StepIsTrue words (actor_of (DropsExclusive q) shared exclusive) (task_with DropExclusive q [])
unfolding latch_ask latch_next latch_next_ask
clears_true words q shared exclusive enough has =
    let one = one_here q in
    let some : 1 ≤ bit_of has.tail.exclusive = omega (arith, has.own_bits, one) in
    let alone = is_set has.tail.exclusive some in
    record {
      tail = has.tail;
      its_word = has.its_word;
      true_to_words = refl;
      leaves = (alone, rw (get_or-set_same words q ((word_at words q + 2 ^ 63) % 2 ^ 64) 0 enough) (bit_less has.tail (word_at words q) has.its_word has.few alone));
      others = λ place other. get_or-set_other words q place _ 0 other;
      shares = refl;
      holds_alone = refl;
    }
  where
    is_set : (b : Bool) → 1 ≤ bit_of b → b ≡ true
    is_set true some = refl
    is_set false some = absurd (omega (arith, some))

-- where a machine has come to tells its task, behind each step too
pub known_moved : (words : List ℕ) (t : Option TaskUnderWay) (step : Latching) (shared exclusive : List ℕ) → ((q : ℕ) → AtLatch q step → HasTail words q (actor_of step shared exclusive)) → KnowsTask step t
    → KnowsTask (replied (actor_of step shared exclusive) (reply_to words (latch_ask step))).step (task_moved words (Some (actor_of step shared exclusive)) t)
unfolding latch_ask latch_next latch_next_ask
known_moved words t AtRest shared exclusive tails knows = rw knows refl
known_moved words t (AddsShare q) shared exclusive tails knows = rw knows (tested (is_exclusive (word_at words q)) refl)
  where
    tested : (b : Bool) → is_exclusive (word_at words q) ≡ b
        → KnowsTask (given (AddsShare q) (if b then latch_ask (GivesBack q) else Done Taken) (actor_of (if b then GivesBack q else AtRest) shared exclusive)).step
        (if is_done (if b then latch_ask (GivesBack q) else Done Taken) then None else Some (task_with TakeShared q (word_at words q ∷ [])))
    tested true e =
        let has = tails q refl in
        record { first = word_at words q; its_task = refl; alone = record { tail = has.tail; its_word = has.its_word; alone = sym (exclusive_test has.tail (word_at words q) has.its_word) ∙ e } }
    tested false e = refl
known_moved words t (GivesBack q) shared exclusive tails knows = rw knows.its_task refl
known_moved words t (DropsShare q) shared exclusive tails knows = rw knows refl
known_moved words t (LoadsWord q) shared exclusive tails knows = rw knows (tested (is_free (word_at words q)) refl)
  where
    nobody : (tail : BucketTail) (b c : Bool) → word_at words q ≡ tail_word tail → tail.exclusive ≡ b → nat_lt 0 tail.shared ≡ c → not (b || c) ≡ true → IsHeldByNobody (word_at words q)
    nobody tail true c its e f g = cc
    nobody tail false true its e f g = cc
    nobody tail false false its e f g = record { tail = tail; its_word = its; none_share = grind (arith, nat_tests, f); none_alone = e }

    tested : (b : Bool) → is_free (word_at words q) ≡ b
        → KnowsTask (given (LoadsWord q) (if b then latch_ask (SetsExclusive q (word_at words q)) else Done Busy) (actor_of (if b then SetsExclusive q (word_at words q) else AtRest) shared exclusive)).step
        (if is_done (if b then latch_ask (SetsExclusive q (word_at words q)) else Done Busy) then None else Some (task_with TakeExclusive q (word_at words q ∷ [])))
    tested true e =
        let has = tails q refl in
        (refl, nobody has.tail has.tail.exclusive (nat_lt 0 has.tail.shared) has.its_word refl refl (sym (free_test has.tail (word_at words q) has.its_word) ∙ e))
    tested false e = refl
known_moved words t (SetsExclusive q word) shared exclusive tails knows = rw knows.0 (tested (word_at words q == word))
  where
    tested : (b : Bool) → KnowsTask (given (SetsExclusive q word) (Done (if b then Taken else Busy)) (actor_of AtRest shared exclusive)).step None
    tested true = refl
    tested false = refl
known_moved words t (DropsExclusive q) shared exclusive tails knows = rw knows refl

-- each step of the task that is known is true
pub step_true : (words : List ℕ) (t : TaskUnderWay) (step : Latching) (shared exclusive : List ℕ) → ((q : ℕ) → AtLatch q step → (q < length words) × HasTail words q (actor_of step shared exclusive)) → IsLatchInRange step → KnowsTask step (Some t)
    → StepIsTrue words (actor_of step shared exclusive) t
step_true words t AtRest shared exclusive at ready knows = cc
step_true words t (AddsShare q) shared exclusive at ready knows = let its = at q refl in subst (StepIsTrue words (actor_of (AddsShare q) shared exclusive)) (sym (the_task t _ knows)) (adds_true words q shared exclusive its.0 its.1)
step_true words t (GivesBack q) shared exclusive at ready knows = let its = at q refl in subst (StepIsTrue words (actor_of (GivesBack q) shared exclusive)) (sym (the_task t _ knows.its_task)) (gives_true words q knows.first shared exclusive its.0 knows.alone its.1)
step_true words t (DropsShare q) shared exclusive at ready knows = let its = at q refl in subst (StepIsTrue words (actor_of (DropsShare q) shared exclusive)) (sym (the_task t _ knows)) (drops_true words q shared exclusive its.0 its.1)
step_true words t (LoadsWord q) shared exclusive at ready knows = let its = at q refl in subst (StepIsTrue words (actor_of (LoadsWord q) shared exclusive)) (sym (the_task t _ knows)) (loads_true words q shared exclusive its.1)
step_true words t (SetsExclusive q word) shared exclusive at ready knows =
    let its = at q refl in
    subst (StepIsTrue words (actor_of (SetsExclusive q word) shared exclusive)) (sym (the_task t _ knows.0)) (sets_true words q word shared exclusive its.0 ready knows.1 its.1)
step_true words t (DropsExclusive q) shared exclusive at ready knows = let its = at q refl in subst (StepIsTrue words (actor_of (DropsExclusive q) shared exclusive)) (sym (the_task t _ knows)) (clears_true words q shared exclusive its.0 its.1)
