-- A step of the Rust world goes on with a run.
use Rattle.std.specs.Prelude.{◌≡◌, ◌⊎◌, ℕ, Bool, false, List, [], ◌∷◌, Option, Some, None}
use Rattle.fkv_disk.specs.Calls.{AllDone}
use Rattle.fkv_disk.specs.Device.{IsAfter}
use Rattle.fkv_keeper.specs.Answers.{IsKeeperTold}
use Rattle.fkv_keeper.specs.Keeping.{end_told, keeper_ask}
use Rattle.fkv_keeper.specs.declared.answers.KeeperAsk.{KeeperAsk}
use Rattle.fkv_keeper.specs.declared.answers.KeeperTold.TheVariants.{Device, Turned}
use Rattle.fkv_plane.specs.declared.asks.Ask.TheVariants.{Done}
use Rattle.fkv_session.specs.Answers.{IsAnswerTold}
use Rattle.fkv_session.specs.declared.answers.Answer.{Answer}
use Rattle.fkv_world.specs.Opened.{IsOpenedWorld}
use Rattle.fkv_world.specs.Past.{TraceEvent, Answered, KeeperAnswered, Traced}
use Rattle.fkv_world.specs.Runs.{World, run}
use Rattle.fkv_world.specs.World.{Event, Now}
use Rattle.fkv_core.specs.declared.events.Told.{Told}
use Rattle.fkv_core.specs.declared.events.Told.TheVariants.{Session}
use Rattle.fkv_core.specs.Told.{keeper_told}

-- the answers of a trace
abbrev pub with_answer : TraceEvent → List TraceEvent → List TraceEvent
with_answer (Answered number its) answers = Answered number its ∷ answers
with_answer (KeeperAnswered its last) answers = KeeperAnswered its last ∷ answers
with_answer its answers = answers

abbrev pub answers_of : List Traced → List TraceEvent
answers_of [] = []
answers_of (t ∷ before) = with_answer t.its (answers_of before)

-- what is told is this answer, whole; an end of the keeper's call never asks for the device
abbrev pub IsAnswerSaid : TraceEvent → Option Told → Type 0
IsAnswerSaid (Answered number its) told = (given : Answer) × (told ≡ Some (Session number given)) × IsAnswerTold its.its its.finished given
IsAnswerSaid (KeeperAnswered its last) told = (full : Bool) × (given : KeeperAsk) × IsKeeperTold last (end_told its (Turned false full)) given × (told ≡ keeper_told given)
IsAnswerSaid its told = ⊥

-- what is told is the answer that came last, and nothing where none came
abbrev pub IsSaid : Option Told → List TraceEvent → List TraceEvent → Type 0
IsSaid told before after = ((told ≡ None) × (after ≡ before)) ⊎ ((its : TraceEvent) × (after ≡ its ∷ before) × IsAnswerSaid its told)

-- The run goes on to what the world shows, the device reads as and may leave what its calls give, and what is told is what its trace got.
pub record IsLedOn (before after : World) (now : Now) (told : Option Told) (seen : List ℕ) (may_leave : List ℕ → Type 0) : Type 0 where
  pub shows : after.now ≡ now
  pub device : IsAfter after.past.opened after.past.calls seen may_leave
  pub says : IsSaid told (answers_of before.past.trace) (answers_of after.past.trace)

-- Where the run of this list from this opening shows this world, over a device that reads as and may leave what the run's calls give, the step leaves the
-- run of that list with the event.
abbrev pub GoesOn : World → List Event → Now → Now → Event → Option Told → List ℕ → List ℕ → (List ℕ → Type 0) → (List ℕ → Type 0) → Type 0
GoesOn opening before n after event told seen seen' may_leave may_leave' =
    (run opening before).now ≡ n → IsAfter (run opening before).past.opened (run opening before).past.calls seen may_leave
    → IsLedOn (run opening before) (run opening (event ∷ before)) after told seen' may_leave'

-- The step goes on with every life of a store that was opened.
abbrev pub LeadsOn : Now → Now → Event → Option Told → List ℕ → List ℕ → (List ℕ → Type 0) → (List ℕ → Type 0) → Type 0
LeadsOn n after event told seen seen' may_leave may_leave' =
    (opening : World) (before : List Event) → IsOpenedWorld opening → GoesOn opening before n after event told seen seen' may_leave may_leave'

-- where the keeper asks for the device all calls so far have succeeded
abbrev pub AsksWhileDone : World → Type 0
AsksWhileDone w = keeper_ask w.now.shape w.now.places w.now.keeper ≡ Done Device → AllDone w.past.calls

-- So it does with every run that leads to such a world, whatever world the run begins with. In the life of a store that was opened each world is one.
abbrev pub LeadsAnyOn : Now → Now → Event → Option Told → List ℕ → List ℕ → (List ℕ → Type 0) → (List ℕ → Type 0) → Type 0
LeadsAnyOn n after event told seen seen' may_leave may_leave' =
    (opening : World) (before : List Event) → AsksWhileDone (run opening before) → GoesOn opening before n after event told seen seen' may_leave may_leave'
