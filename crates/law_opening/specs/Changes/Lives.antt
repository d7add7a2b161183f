-- What the laws say of the lives of a store that was opened.
use Rattle.std.specs.Prelude.{◌≡◌, ◌<◌, ℕ, List}
use Rattle.fkv_core.specs.Openings.{IsOpeningWorld, beginning}
use Rattle.fkv_filling.specs.OpeningIndex.{opening_lists}
use Rattle.law_refine.specs.Below.fkv_flush.GuardFlushed.{stands}
use Rattle.law_log.specs.Begins.{IsAbove}
use Rattle.law_paper.specs.Below.fkv_opening.Opened.{IsStoreOf}
use Rattle.law_paper.specs.Below.fkv_opening.TheOpened.{Opened}
use Rattle.law_refine.specs.Below.fkv_world.World.{Event, Now}
use Rattle.law_opening.specs.Changes.Fits.{CallsFit, CellsFit}
use Rattle.law_opening.specs.Changes.Laws.{BeginsFitting, BeginsLinked}
use Rattle.law_opening.specs.Changes.Linked.{ChainsFall}
use Rattle.law_refine.specs.Below.law_world.Guarded.GuardEvents as guarded
use Rattle.law_refine.specs.Below.law_world.Guarded.Shows.{guard_opening}
use Rattle.law_opening.specs.Log.Lives.{ghosts_beside}
use Rattle.law_opening.specs.Log.OpeningLog.{opening_ghosts}
use Rattle.law_refine.specs.Events.GhostEvents.{home_in}
use Rattle.law_refine.specs.Records.Changes.{AreChangesPublished}
use Rattle.law_refine.specs.Records.Headers.{HeadersShowLog}

-- a life of it begins so
abbrev pub LivesBeginLinked : Type 0
LivesBeginLinked =
    (o : Opened) (n : Now) (bytes : List ℕ) → IsStoreOf bytes o → IsOpeningWorld o n → BeginsLinked (beginning n bytes) o.tail.0 (opening_lists o.entries.items) (opening_ghosts bytes o)

-- the record that a session changes in place is published
abbrev pub LivesChangePublished : Type 0
LivesChangePublished =
    (o : Opened) (n : Now) (bytes : List ℕ) (events : List Event) → IsStoreOf bytes o → IsOpeningWorld o n → AreChangesPublished (beginning n bytes) (opening_ghosts bytes o) events

-- addresses fall down each chain
abbrev pub LivesHaveFallingChains : Type 0
LivesHaveFallingChains =
    (o : Opened) (n : Now) (bytes : List ℕ) (events : List Event) → IsStoreOf bytes o → IsOpeningWorld o n → (let beside = ghosts_beside o n bytes events in ChainsFall (home_in n.shape.bucket_bits) beside.log)

-- the header of a decided record says what became of it
abbrev pub LivesShowHeaders : Type 0
LivesShowHeaders =
    (o : Opened) (n : Now) (bytes : List ℕ) (events : List Event) → IsStoreOf bytes o → IsOpeningWorld o n
    → (let beside = ghosts_beside o n bytes events in HeadersShowLog o.tail.0 (stands (guard_opening n o.tail.0) (guarded.mapped (beginning n bytes) events)) beside.log)

-- and what the store was opened with stays
abbrev pub LivesKeepOldRecords : Type 0
LivesKeepOldRecords =
    (o : Opened) (n : Now) (bytes : List ℕ) (events : List Event) (a : ℕ) → IsStoreOf bytes o → IsOpeningWorld o n → a < o.tail.0
    → (let beside = ghosts_beside o n bytes events in beside.log.cells a) ≡ (let first = opening_ghosts bytes o in first.log.cells a)

-- a life of it begins with numbers that fit in words
abbrev pub LivesBeginFitting : Type 0
LivesBeginFitting =
    (o : Opened) (n : Now) (bytes : List ℕ) → IsStoreOf bytes o → IsOpeningWorld o n → BeginsFitting (beginning n bytes) o.tail.0 (opening_lists o.entries.items) (opening_ghosts bytes o)

-- and the records of its log keep such numbers
abbrev pub LivesKeepFitting : Type 0
LivesKeepFitting =
    (o : Opened) (n : Now) (bytes : List ℕ) (events : List Event) → IsStoreOf bytes o → IsOpeningWorld o n → CallsFit events
    → (let beside = ghosts_beside o n bytes events in CellsFit beside.log)

-- no record of its log lies below the begin that the store was opened with
abbrev pub LivesAreAbove : Type 0
LivesAreAbove =
    (o : Opened) (n : Now) (bytes : List ℕ) (events : List Event) → IsStoreOf bytes o → IsOpeningWorld o n → (let beside = ghosts_beside o n bytes events in IsAbove o.begin.0 beside.log)
