-- A store that is of a commit by the log beside a life.
use Rattle.std.specs.Prelude.{◌≡◌, ◌≤◌, ℕ, List}
use Rattle.law_opening.specs.Below.fkv_core.Openings.{IsOpeningWorld, beginning}
use Rattle.fkv_map.specs.History.{IsLegal, content, kept}
use Rattle.fkv_map.specs.Map.{Map}
use Rattle.law_opening.specs.Below.fkv_newest.TheNewest.{Newest}
use Rattle.law_opening.specs.Below.fkv_opening.Opened.{IsStoreOf}
use Rattle.law_opening.specs.Below.fkv_opening.TheOpened.{Opened}
use Rattle.law_commit.specs.Below.fkv_world.World.{Event, Now}
use Rattle.law_log.specs.Ghosts.{Ghosts}
use Rattle.law_log.specs.Trace.{history_of}
use Rattle.law_opening.specs.Log.Lives.{KeepsRules, ghosts_beside}
use Rattle.law_opening.specs.Log.Maps.{opening_map}
use Rattle.law_opening.specs.Log.OpeningLog.{opening_ghosts}
use Rattle.law_order.specs.Prefix.Law.{kept_so_far}
use Rattle.law_commit.specs.Below.law_paper.Kept.{KeepsPrefix, PointsSplit}
use Rattle.law_commit.specs.Below.law_paper.Paper.Named.{IsOfCommit}
use Rattle.law_commit.specs.Below.law_refine.Events.GhostEvents.{home_in}
use Rattle.law_commit.specs.Below.law_refine.Records.Changes.{AreChangesPublished}

-- The map of an image's store is the content of what its points keep, if it has a commit's values by a log, and its points keep just these.
abbrev pub JoinsValuesAndPoints : Type 0
JoinsValuesAndPoints =
    (home : ℕ → ℕ) (image : List ℕ) (n : Newest) (r : Opened) (store : IsStoreOf image r) (m : Map) (g : Ghosts) → IsOfCommit home image n g.log r store
    → KeepsPrefix home m r.points.items n.slot.number g → opening_map image r ≡ content m (kept (history_of g.log.history) r.points.items)

-- The store has the values that the log beside the life shows of versions up to its commit's, which is no older than the opening's. Its points keep just the
-- updates of these versions.
pub record IsOfCommitBeside (o : Opened) (n : Now) (bytes : List ℕ) (events : List Event) (image : List ℕ) (r : Opened) (store : IsStoreOf image r) : Type 0 where
  pub newest : Newest
  pub values : (let beside = ghosts_beside o n bytes events in IsOfCommit (home_in n.shape.bucket_bits) image newest beside.log r store)
  pub since : (let it = newest in o.number.0 ≤ it.slot.number)
  pub split : (let it = newest in let beside = ghosts_beside o n bytes events in PointsSplit r.points.items it.slot.number beside.log.history)

-- its map is the one with which the life began, behind a replay of the updates that its points keep
abbrev pub ReplaysKept : Opened → Now → List ℕ → List Event → List ℕ → Opened → Type 0
ReplaysKept o n bytes events image r = opening_map image r ≡ content (opening_map bytes o) (kept_so_far n bytes events r.points.items)

-- which is legal with the replies that were given
abbrev pub KeepsLegally : Opened → Now → List ℕ → List Event → List ℕ → Opened → Type 0
KeepsLegally o n bytes events image r = IsLegal (opening_map bytes o) (kept_so_far n bytes events r.points.items)

-- So it is of each store of such a commit, beside each life of an opened store that keeps the rules: each event of the log is enabled, and what a session
-- changes in place is published.
abbrev pub OfEachCommit : (Opened → Now → List ℕ → List Event → List ℕ → Opened → Type 0) → Type 0
OfEachCommit P =
    (bytes : List ℕ) (o : Opened) (n : Now) (events : List Event) (image : List ℕ) (r : Opened) (store : IsStoreOf image r) → IsStoreOf bytes o → IsOpeningWorld o n
    → KeepsRules o n bytes events → AreChangesPublished (beginning n bytes) (opening_ghosts bytes o) events → IsOfCommitBeside o n bytes events image r store
    → P o n bytes events image r
