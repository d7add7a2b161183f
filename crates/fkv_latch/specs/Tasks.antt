-- What a task does and answers, by the words that its steps have met, and by no state of its machine.
use Rattle.std.specs.Prelude.{◌≡◌, ◌≢◌, ℕ, ◌+◌, ◌-◌, ◌<◌, ◌==◌, ◌||◌, ◌↔◌, nat_lt, if◌then◌else◌, MatchBool, Bool, true, false, List, [], ◌∷◌, slice_get, Option, Some, None}
use Rattle.fkv_words.specs.declared.bucket_tail.BucketTail.{BucketTail}
use Rattle.fkv_words.specs.Layout.{tail_word}
use Rattle.fkv_plane.specs.declared.asks.Ask.{Ask}
use Rattle.fkv_plane.specs.declared.asks.Ask.TheVariants.{Done}
use Rattle.fkv_plane.specs.declared.places.Places.{Places}
use Rattle.fkv_plane.specs.Asked.{word_at, reply_to}
use Rattle.fkv_plane.specs.Passing.{is_done}
use Rattle.fkv_latch.specs.declared.latching.LatchAnswer.{LatchAnswer}
use Rattle.fkv_latch.specs.declared.latching.LatchAnswer.TheVariants.{Taken, Busy, Dropped}
use Rattle.fkv_latch.specs.declared.latching.LatchTask.{LatchTask}
use Rattle.fkv_latch.specs.declared.latching.LatchTask.TheVariants.{TakeShared, DropShared, TakeExclusive, DropExclusive}
use Rattle.fkv_latch.specs.declared.latching.Latching.TheVariants.{AtRest}
use Rattle.fkv_latch.specs.Latching.{latch_ask, latch_next_ask}
use Rattle.fkv_latch.specs.LatchWorld.{LatchEvent, Begins, Moves, Changes, LatchActor, LatchWorld, may_begin, latch_happens, latch_run}
use Rattle.fkv_latch.specs.Latched.{IsOpened, opening}

-- a task under way with the latch at a place, and the words that its steps have met there, the newest first
pub record TaskUnderWay : Type 0 where
  pub task : LatchTask
  pub place : ℕ
  pub met : List ℕ

-- what an actor asks behind its next step
abbrev pub next_ask : List ℕ → LatchActor → Ask LatchAnswer
next_ask words a = latch_next_ask a.step (reply_to words (latch_ask a.step))

abbrev pub task_begun : Places → ℕ → LatchTask → ℕ → Option LatchActor → Option TaskUnderWay → Option TaskUnderWay
task_begun p actor task place None t = t
task_begun p actor task place (Some a) t = if may_begin p actor task place a then Some (record { task = task; place = place; met = [] }) else t

-- each step meets the word of the latch, and a task ends with its answer
abbrev pub task_moved : List ℕ → Option LatchActor → Option TaskUnderWay → Option TaskUnderWay
task_moved words None t = t
task_moved words (Some a) None = None
task_moved words (Some a) (Some t) = if is_done (next_ask words a) then None else Some (record t { met = word_at words t.place ∷ t.met })

abbrev pub task_after : LatchWorld → ℕ → LatchEvent → Option TaskUnderWay → Option TaskUnderWay
task_after w actor (Begins i task place) t = if i == actor then task_begun w.places actor task place (slice_get w.actors actor) t else t
task_after w actor (Moves i) t = if i == actor then task_moved w.words (slice_get w.actors actor) t else t
task_after w actor (Changes place word) t = t

-- the task that an actor has under way, as a run tells it
unfoldable pub task_of : LatchWorld → List LatchEvent → ℕ → Option TaskUnderWay
task_of opening [] actor = None
task_of opening (event ∷ before) actor = task_after (latch_run opening before) actor event (task_of opening before actor)

-- a word of a latch that one holds alone
pub record IsHeldAlone (word : ℕ) : Type 0 where
  pub tail : BucketTail
  pub its_word : word ≡ tail_word tail
  pub alone : tail.exclusive ≡ true

-- a word of a latch that nobody holds, neither together nor alone
pub record IsHeldByNobody (word : ℕ) : Type 0 where
  pub tail : BucketTail
  pub its_word : word ≡ tail_word tail
  pub none_share : tail.shared ≡ 0
  pub none_alone : tail.exclusive ≡ false

-- What is asked behind a step is true to the words that the task has met before and to the one that the step meets.
-- A share is taken where it meets nobody who holds the latch alone; where it meets one, it asks once more, and is then busy.
-- The exclusive latch is busy where anybody holds it; where nobody does it is asked for once more, and taken where the word is still the same.
-- A drop is dropped by one step. No task makes a third step.
abbrev pub IsTrueTo : LatchTask → List ℕ → BucketTail → Ask LatchAnswer → Type 0
IsTrueTo TakeShared [] tail ask = MatchBool tail.exclusive (is_done ask ≡ false) (ask ≡ Done Taken)
IsTrueTo TakeShared (first ∷ []) tail ask = IsHeldAlone first × (ask ≡ Done Busy)
IsTrueTo TakeExclusive [] tail ask = MatchBool (tail.exclusive || nat_lt 0 tail.shared) (ask ≡ Done Busy) (is_done ask ≡ false)
IsTrueTo TakeExclusive (first ∷ []) tail ask = IsHeldByNobody first × MatchBool (tail_word tail == first) (ask ≡ Done Taken) (ask ≡ Done Busy)
IsTrueTo DropShared [] tail ask = ask ≡ Done Dropped
IsTrueTo DropExclusive [] tail ask = ask ≡ Done Dropped
IsTrueTo task met tail ask = ⊥

-- a word that leads on as this tail does, with so many shares, and held alone or not
pub record LeadsAlike (tail : BucketTail) (shares : ℕ) (alone : Bool) (word : ℕ) : Type 0 where
  pub after : BucketTail
  pub its_word : word ≡ tail_word after
  pub same_link : after.overflow ≡ tail.overflow
  pub its_shares : after.shared ≡ shares
  pub its_bit : after.exclusive ≡ alone

-- What a step leaves of the word that it met: a share is added, and the one that met a latch held alone is taken off by the second step;
-- bit 63 is set in just the word that was free, and cleared by a drop. Where a bucket leads on stays.
abbrev pub Leaves : LatchTask → List ℕ → BucketTail → ℕ → Type 0
Leaves TakeShared [] tail word = LeadsAlike tail (tail.shared + 1) tail.exclusive word
Leaves TakeShared (first ∷ []) tail word = (0 < tail.shared) × LeadsAlike tail (tail.shared - 1) tail.exclusive word
Leaves TakeExclusive [] tail word = word ≡ tail_word tail
Leaves TakeExclusive (first ∷ []) tail word = MatchBool (tail_word tail == first) (LeadsAlike tail 0 true word) (word ≡ tail_word tail)
Leaves DropShared [] tail word = (0 < tail.shared) × LeadsAlike tail (tail.shared - 1) tail.exclusive word
Leaves DropExclusive [] tail word = (tail.exclusive ≡ true) × LeadsAlike tail tail.shared false word
Leaves task met tail word = ⊥

-- who is answered that it has taken the latch holds it from then on, shared or exclusive
abbrev pub shared_after : LatchTask → ℕ → Ask LatchAnswer → List ℕ → List ℕ
shared_after TakeShared place (Done Taken) held = place ∷ held
shared_after task place ask held = held

abbrev pub exclusive_after : LatchTask → ℕ → Ask LatchAnswer → List ℕ → List ℕ
exclusive_after TakeExclusive place (Done Taken) held = place ∷ held
exclusive_after task place ask held = held

-- one step of a task: by it an actor goes on from a to b, and the words from these to those after it
pub record IsTrueStep (words after : List ℕ) (a b : LatchActor) (t : TaskUnderWay) : Type 0 where
  pub tail : BucketTail
  pub its_word : word_at words t.place ≡ tail_word tail
  pub true_to_words : IsTrueTo t.task t.met tail (next_ask words a)
  pub leaves : Leaves t.task t.met tail (word_at after t.place)
  pub others : (place : ℕ) → place ≢ t.place → word_at after place ≡ word_at words place
  pub shares : b.shared ≡ shared_after t.task t.place (next_ask words a) a.shared
  pub holds_alone : b.exclusive ≡ exclusive_after t.task t.place (next_ask words a) a.exclusive

-- each step of each task is true
abbrev pub AreTasksTrue : LatchWorld → (ℕ → Option TaskUnderWay) → Type 0
AreTasksTrue w tasks = (i : ℕ) (a b : LatchActor) (t : TaskUnderWay) → slice_get w.actors i ≡ Some a → tasks i ≡ Some t → slice_get (latch_happens w (Moves i)).actors i ≡ Some b
    → IsTrueStep w.words (latch_happens w (Moves i)).words a b t

-- an actor is at rest where it has no task under way, and there alone
abbrev pub RestBetweenTasks : LatchWorld → (ℕ → Option TaskUnderWay) → Type 0
RestBetweenTasks w tasks = (i : ℕ) (a : LatchActor) → slice_get w.actors i ≡ Some a → (a.step ≡ AtRest) ↔ (tasks i ≡ None)

-- a step of an actor at rest does nothing
abbrev pub RestersStay : LatchWorld → (ℕ → Option TaskUnderWay) → Type 0
RestersStay w tasks = (i : ℕ) → tasks i ≡ None → latch_happens w (Moves i) ≡ w

-- what holds at each moment of each run, of the world and of the tasks that are under way
abbrev pub AtEachMoment : (LatchWorld → (ℕ → Option TaskUnderWay) → Type 0) → Type 0
AtEachMoment P = (places : Places) (actors : ℕ) (words : List ℕ) (events : List LatchEvent) → IsOpened places words
    → P (latch_run (opening places actors words) events) (task_of (opening places actors words) events)
