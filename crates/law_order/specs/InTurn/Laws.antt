-- What the laws of `in_turn` say.
use Rattle.std.specs.Prelude.{ℕ, List}
use Rattle.law_opening.specs.Below.fkv_core.Openings.{IsOpeningWorld, beginning}
use Rattle.fkv_disk.specs.Device.{LeavesOnly}
use Rattle.law_opening.specs.Below.fkv_opening.Opened.{IsStoreOf}
use Rattle.law_opening.specs.Below.fkv_opening.TheOpened.{Opened}
use Rattle.law_commit.specs.Below.fkv_world.OwnEvents.{keeper_events}
use Rattle.law_commit.specs.Below.fkv_world.World.{Event, Now}
use Rattle.law_commit.specs.Below.law_world.Keeper.Lives.{IsLifeTold}
use Rattle.law_commit.specs.Below.law_world.Standing.Opening.{AreNumbersInTurn}
use Rattle.law_opening.specs.Lives.OpenedFrom.{IsOpenedFrom}
use Rattle.law_opening.specs.Lives.Steps.{AllLeadOn, OneCommitStands, Step, device_behind, events_of, now_behind}
use Rattle.law_commit.specs.Floor.Stands.{FloorStands, LiveViewsAreNear}
use Rattle.law_commit.specs.Laws.Phases.{IsSafeBelowComing, IsSafeBelowViews}
use Rattle.law_commit.specs.Phases.Staged.{OpensAtRest}

-- an opened store opens at rest
abbrev pub OpensItsStoreAtRest : Type 0
OpensItsStoreAtRest =
    (o : Opened) (n : Now) → IsOpeningWorld o n → OpensAtRest n

-- the commits of its lives have numbers in turn
abbrev pub NumbersItsCommitsInTurn : Type 0
NumbersItsCommitsInTurn =
    (bytes : List ℕ) (o : Opened) (n : Now) (events : List Event) → IsStoreOf bytes o → IsOpeningWorld o n
    → AreNumbersInTurn n.shape n.places n.keeper (keeper_events (beginning n bytes) events)

-- so what law_world tells of one commit is of its lives
abbrev pub TellsOfItsLife : Type 0
TellsOfItsLife =
    (bytes : List ℕ) (o : Opened) (n : Now) (events : List Event) → IsOpenedFrom bytes o n → IsLifeTold (beginning n bytes) events

-- In each of its lives the views of live sessions have their floor, and any two are near.
abbrev pub HasFloorInItsLife : Type 0
HasFloorInItsLife =
    (bytes : List ℕ) (o : Opened) (n : Now) (events : List Event) → IsStoreOf bytes o → IsOpeningWorld o n → FloorStands (beginning n bytes) events

abbrev pub KeepsItsViewsNear : Type 0
KeepsItsViewsNear =
    (bytes : List ℕ) (o : Opened) (n : Now) (events : List Event) → IsStoreOf bytes o → IsOpeningWorld o n → LiveViewsAreNear (beginning n bytes) events

-- and the safe read-only offset stays at or below the tails of their views, and of those that are coming
abbrev pub KeepsSafeBelowItsViews : Type 0
KeepsSafeBelowItsViews =
    (bytes : List ℕ) (o : Opened) (n : Now) (events : List Event) → IsStoreOf bytes o → IsOpeningWorld o n → IsSafeBelowViews (beginning n bytes) events

abbrev pub KeepsSafeBelowItsComing : Type 0
KeepsSafeBelowItsComing =
    (bytes : List ℕ) (o : Opened) (n : Now) (events : List Event) → IsStoreOf bytes o → IsOpeningWorld o n → IsSafeBelowComing (beginning n bytes) events

-- behind any steps of its world one commit stands in each image that a crash leaves of the device
abbrev pub OneCommitAlwaysStands : {D : Type 0} → (D → List ℕ) → (D → List ℕ → Type 0) → D → Type 0
OneCommitAlwaysStands {D} seen may_leave device =
    (o : Opened) (n : Now) (steps : List (Step D)) (image : List ℕ) → IsOpenedFrom (seen device) o n → LeavesOnly (seen device) (may_leave device)
    → AllLeadOn seen may_leave n device steps → may_leave (device_behind device steps) image
    → OneCommitStands (beginning n (seen device)) (events_of steps) (now_behind n steps) image
