-- The commits whose gate was opened, or may have been: what each says, and how far it has come.
use Rattle.std.specs.Prelude.{◌≡◌, ⊤, ℕ, ◌+◌, Bool, true, false, List, [], ◌∷◌, Option, Some, None}
use Rattle.fkv_base.specs.declared.numbers.Serial.{Serial}
use Rattle.fkv_base.specs.declared.numbers.Version.{Version}
use Rattle.fkv_base.specs.declared.shapes.Shape.{Shape}
use Rattle.fkv_plane.specs.declared.places.Places.{Places}
use Rattle.law_refine.specs.Below.fkv_commit.Commit.{Commit}
use Rattle.law_refine.specs.Below.fkv_manifest.TheCommitting.{Committing}
use Rattle.law_refine.specs.Below.fkv_manifest.TheCommitting.TheVariants.{PutsSlot}
use Rattle.law_refine.specs.Below.fkv_manifest.TheGating.{Gating}
use Rattle.law_refine.specs.Below.fkv_manifest.TheGating.TheVariants.{Opens, SyncsOpen}
use Rattle.law_refine.specs.Below.fkv_keeper.KeeperTold.TheVariants.{Turned}
use Rattle.law_refine.specs.Below.fkv_keeper.TheKeeping.{Keeping}
use Rattle.law_refine.specs.Below.fkv_keeper.TheKeeping.TheVariants.{Ended, Writes, Finishes}
use Rattle.law_refine.specs.Below.fkv_keeper.Keeping.{KeeperState}
use Rattle.law_refine.specs.Below.fkv_keeper.KeeperRun.{KeeperEvent, Calls, keeper_run}
use Rattle.law_refine.specs.Below.fkv_world.OwnEvents.{keeper_events}
use Rattle.law_refine.specs.Below.fkv_world.Runs.{World}
use Rattle.law_refine.specs.Below.fkv_world.World.{Event, Now}
use Rattle.law_commit.specs.CommitParts.{CommitParts, parts_opened, parts_opening}

-- A commit that has begun. No clause of the law of prefixes reads its parts.
pub record BegunCommit : Type 0 where
  pub number : Version
  pub points : List Serial
  -- the sync behind its open gate has succeeded
  pub is_sealed : Bool
  -- it was told as finished
  pub is_finished : Bool
  pub parts : CommitParts

-- as its gate is opened
abbrev pub commit_opening : KeeperState → Commit → BegunCommit
commit_opening s c = record { number = c.number; points = s.seek.points; is_sealed = false; is_finished = false; parts = parts_opening s c }

abbrev pub with_opening : KeeperState → Option Commit → List BegunCommit → List BegunCommit
with_opening s None before = before
with_opening s (Some c) before = commit_opening s c ∷ before

-- the newest is sealed, and the newest is finished
abbrev pub with_sealed : List BegunCommit → List BegunCommit
with_sealed [] = []
with_sealed (c ∷ before) = record c { is_sealed = true } ∷ before

abbrev pub with_finished : List BegunCommit → List BegunCommit
with_finished [] = []
with_finished (c ∷ before) = record c { is_finished = true } ∷ before

-- the call that opens the gate, and the sync behind it
abbrev pub begun_at_gate : KeeperState → Gating → Bool → List BegunCommit → List BegunCommit
begun_at_gate s Opens done before = with_opening s s.commit before
begun_at_gate s SyncsOpen true before = with_sealed before
begun_at_gate s step done before = before

abbrev pub begun_at_writes : KeeperState → Committing → Bool → List BegunCommit → List BegunCommit
begun_at_writes s PutsSlot done before = begun_at_gate s s.writes.gate.step done before
begun_at_writes s step done before = before

-- and the end of the turn in which it is finished
abbrev pub begun_at_end : Keeping → List BegunCommit → List BegunCommit
begun_at_end (Ended (Turned true full)) before = with_finished before
begun_at_end after before = before

abbrev pub begun_by : KeeperState → Keeping → KeeperEvent → Keeping → List BegunCommit → List BegunCommit
begun_by s Writes (Calls done bytes) after before = begun_at_writes s s.writes.step done before
begun_by s Finishes event after before = begun_at_end after before
begun_by s step event after before = before

-- of a keeper that opened with these, after these events of its own; the newest first
unfoldable pub commits_begun : Shape → Places → KeeperState → List BegunCommit → List KeeperEvent → List BegunCommit
commits_begun shape p opening first [] = first
commits_begun shape p opening first (event ∷ before) =
    begun_by (keeper_run shape p opening before) (keeper_run shape p opening before).step event (keeper_run shape p opening (event ∷ before)).step
    (commits_begun shape p opening first before)

-- the commit with which a store opens
abbrev pub commit_opened : Now → List ℕ → BegunCommit
commit_opened n opened = record { number = n.keeper.last.number; points = n.keeper.last.points; is_sealed = true; is_finished = true; parts = parts_opened n opened }

-- in a life, with the opening's commit as the last of the list
abbrev pub life_begun : World → List Event → List BegunCommit
life_begun opening events =
    commits_begun opening.now.shape opening.now.places opening.now.keeper (commit_opened opening.now opening.past.opened ∷ []) (keeper_events opening events)

-- each number is the one behind that of the commit before it
abbrev pub ComesNext : BegunCommit → List BegunCommit → Type 0
ComesNext c [] = ⊤
ComesNext c (earlier ∷ before) = c.number.0 ≡ earlier.number.0 + 1

abbrev pub AreInTurn : List BegunCommit → Type 0
AreInTurn [] = ⊤
AreInTurn (c ∷ before) = ComesNext c before × AreInTurn before
