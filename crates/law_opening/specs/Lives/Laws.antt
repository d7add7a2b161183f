-- What the laws of `lives` say.
use Rattle.std.specs.Prelude.{ℕ, List, [], length, Bool}
use Rattle.fkv_base.specs.declared.shapes.Shape.{Shape}
use Rattle.fkv_creating.specs.Created.{IsCreated}
use Rattle.fkv_disk.specs.Device.{IsAfter, LeavesOnly}
use Rattle.fkv_disk.specs.Kinds.{Foretold, Kind}
use Rattle.fkv_filling.specs.OpeningIndex.{IsOpeningIndex, opening_lists}
use Rattle.law_paper.specs.Below.fkv_opening.Opened.{IsStoreOf}
use Rattle.law_paper.specs.Below.fkv_opening.TheOpened.{Opened}
use Rattle.law_refine.specs.Below.law_world.Standing.Opening.{AreNumbersInTurn, IsBehind, IsToldBy}
use Rattle.law_refine.specs.Below.law_world.Keeper.Lives.{IsLifeTold}
use Rattle.law_refine.specs.Below.fkv_world.Opened.{IsOpenedWorld}
use Rattle.law_refine.specs.Below.fkv_world.OwnEvents.{keeper_events}
use Rattle.law_refine.specs.Below.fkv_world.World.{Event, Now}
use Rattle.fkv_core.specs.Openings.{IsOpeningWorld, beginning, newest_commit}
use Rattle.law_refine.specs.Below.law_world.Guarded.OpenedStore.{IsOpenedStore}
use Rattle.law_refine.specs.Index.Shows as index
use Rattle.law_refine.specs.Latches.Shows as latch
use Rattle.law_opening.specs.Lives.Made.{AllMade}
use Rattle.law_opening.specs.Lives.OpenedFrom.{IsOpenedFrom}
use Rattle.law_paper.specs.Paper.Forgotten.{AgreeFrom}
use Rattle.law_opening.specs.Lives.Reaching.{ReachesFar}
use Rattle.law_opening.specs.Lives.Steps.{AllLeadOn, AllLedOn, AreStepsOfOpened, OneCommitStands, Step, device_behind, events_of, now_behind}

-- the world of an opened store is one with which the guard begins
abbrev pub GuardOpens : Type 0
GuardOpens =
    (o : Opened) (n : Now) (bytes : List ℕ) → IsOpeningWorld o n → IsOpenedStore (beginning n bytes) o.tail.0

-- and one with which the latches begin
abbrev pub LatchesOpen : Type 0
LatchesOpen =
    (o : Opened) (n : Now) → IsOpeningWorld o n → latch.IsOpened n

-- and one with which the index begins
abbrev pub IndexOpens : Type 0
IndexOpens =
    (o : Opened) (n : Now) (bytes : List ℕ) → IsOpeningWorld o n → index.IsOpened (beginning n bytes) (opening_lists o.entries.items)

-- whose words have the store's entries
abbrev pub IndexHasItsEntries : Type 0
IndexHasItsEntries =
    (o : Opened) (n : Now) → IsOpeningWorld o n → IsOpeningIndex n.places o.entries.items n.words

-- a life begins with the world of an opened store
abbrev pub WorldBeginsALife : Type 0
WorldBeginsALife =
    (o : Opened) (n : Now) (bytes : List ℕ) → IsOpeningWorld o n → IsOpenedWorld (beginning n bytes)

-- and with a device of which a crash leaves just what is read
abbrev pub DeviceBeginsALife : {D : Type 0} → (D → List ℕ) → (D → List ℕ → Type 0) → D → Type 0
DeviceBeginsALife {D} seen may_leave device =
    LeavesOnly (seen device) (may_leave device) → IsAfter (seen device) [] (seen device) (may_leave device)

-- the steps that calls make of an honest device lead each life on
abbrev pub MadeStepsLeadOn : {D : Type 0} → (D → Type 0) → (D → List ℕ) → (D → List ℕ → Type 0) → (D → ℕ) → (D → ℕ → Bool) → (D → List Kind → Foretold) → D → Type 0
MadeStepsLeadOn {D} honest seen may_leave failed refuses expects device =
    (n : Now) (steps : List (Step D)) → honest device → AllMade honest seen may_leave failed refuses expects n device steps → AllLeadOn seen may_leave n device steps

-- steps that lead each life on are events of the life that begins here
abbrev pub StepsAreOfTheLife : {D : Type 0} → (D → List ℕ) → (D → List ℕ → Type 0) → D → Type 0
StepsAreOfTheLife {D} seen may_leave device =
    (n : Now) (steps : List (Step D)) → IsOpenedWorld (beginning n (seen device)) → LeavesOnly (seen device) (may_leave device)
    → AllLeadOn seen may_leave n device steps → AllLedOn seen may_leave (beginning n (seen device)) steps

-- the keeper of an opened store is told the truth of its bytes
abbrev pub KeeperIsToldTheBytes : Type 0
KeeperIsToldTheBytes =
    (bytes : List ℕ) (o : Opened) (n : Now) → IsOpenedFrom bytes o n → IsToldBy n.shape n.places bytes n.keeper

-- bytes that reach far end behind the checkpoint of the store that they hold
abbrev pub FarBytesEndBehind : Type 0
FarBytesEndBehind =
    (bytes : List ℕ) (o : Opened) → ReachesFar bytes → IsStoreOf bytes o → IsBehind o.shape (newest_commit o).checkpoint (length bytes)

-- so do bytes that agree but at those that count for nothing
abbrev pub ForgottenReachFar : Type 0
ForgottenReachFar = (image other : List ℕ) → AgreeFrom image other → ReachesFar image → ReachesFar other

-- and those of a new store do
abbrev pub CreatedReachesFar : Type 0
CreatedReachesFar = (shape : Shape) (image : List ℕ) → IsCreated shape image → ReachesFar image

-- the keeper is told the truth in each life whose commits have numbers in turn
abbrev pub KeeperIsToldItsLife : Type 0
KeeperIsToldItsLife =
    (bytes : List ℕ) (o : Opened) (n : Now) (events : List Event) → IsOpenedFrom bytes o n
    → AreNumbersInTurn n.shape n.places n.keeper (keeper_events (beginning n bytes) events) → IsLifeTold (beginning n bytes) events

-- behind such steps one commit stands in each image that a crash leaves
abbrev pub OneCommitStandsBehindSteps : {D : Type 0} → (D → List ℕ) → (D → List ℕ → Type 0) → D → Type 0
OneCommitStandsBehindSteps {D} seen may_leave device =
    (o : Opened) (n : Now) (steps : List (Step D)) (image : List ℕ) → AreStepsOfOpened seen may_leave o n device steps → may_leave (device_behind device steps) image
    → OneCommitStands (beginning n (seen device)) (events_of steps) (now_behind n steps) image
