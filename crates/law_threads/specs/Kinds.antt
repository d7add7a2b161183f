-- The kinds of commits: which was asked for, and of which the commit is that has begun.
use Rattle.std.specs.Prelude.{◌≡◌, ℕ, false, List, [], ◌∷◌, Option, Some, None}
use Rattle.fkv_base.specs.declared.commits.CommitKind.{CommitKind}
use Rattle.fkv_base.specs.declared.commits.CommitKind.TheVariants.{Full, Log}
use Rattle.fkv_base.specs.declared.numbers.Version.{Version}
use Rattle.law_order.specs.Below.fkv_keeper.KeeperRun.{is_in_hand}
use Rattle.law_order.specs.Below.fkv_keeper.KeeperTold.TheVariants.{Begun}
use Rattle.law_order.specs.Below.fkv_keeper.TheKeeping.{Keeping}
use Rattle.law_order.specs.Below.fkv_keeper.TheKeeping.TheVariants.{Ended, Starts}
use Rattle.law_order.specs.Below.fkv_opening.TheOpened.{Opened}
use Rattle.law_order.specs.Below.fkv_world.Runs.{World, run}
use Rattle.law_order.specs.Below.fkv_world.World.{Now}
use Rattle.law_order.specs.Below.law_commit.BegunCommits.{BegunCommit}
use Rattle.fkv_table.specs.declared.happenings.Happening.{Happening}
use Rattle.fkv_table.specs.declared.happenings.Happening.TheVariants.{Commits, Turns}
use Rattle.fkv_table.specs.KeeperCalls.{HasKept}
use Rattle.law_threads.specs.Calls.{IsOver, events_of}

-- the kind that was asked for last, and the kind for which the call had asked that has begun the newest commit
pub record Kinds : Type 0 where
  pub asked : Option CommitKind
  pub begun : Option CommitKind

-- a commit is asked for where no call is in hand
abbrev pub asked_by : Keeping → Happening → Kinds → Kinds
asked_by (Ended its) (Commits kind) was = record was { asked = Some kind }
asked_by step its was = was

-- the call that has asked for it ends with its number
abbrev pub begun_by : Keeping → Keeping → Kinds → Kinds
begun_by Starts (Ended (Begun number)) was = record was { begun = was.asked }
begun_by step after was = was

-- by the list of a table that opened as this world
unfoldable pub kinds_told : World → List Happening → Kinds
kinds_told w [] = record { asked = None; begun = None }
kinds_told w (its ∷ before) =
    begun_by (run w (events_of before)).now.keeper.step (run w (events_of (its ∷ before))).now.keeper.step
    (asked_by (run w (events_of before)).now.keeper.step its (kinds_told w before))

-- ---- what the keeper's own calls make of them
-- A call that asks for a commit of a kind, and ends with its number, has begun one of this kind. No turn changes what was begun.
pub record KeepsKinds (w : World) : Type 0 where
  pub commits : (kind : CommitKind) (number : Version) (seen seen' : List Happening) → HasKept (Commits kind) seen seen' → is_in_hand (run w (events_of seen)).now.keeper.step ≡ false
      → (run w (events_of seen')).now.keeper.step ≡ Ended (Begun number) → (kinds_told w seen').begun ≡ Some kind
  pub turns : (seen seen' : List Happening) → HasKept Turns seen seen' → is_in_hand (run w (events_of seen)).now.keeper.step ≡ false → (kinds_told w seen').begun ≡ (kinds_told w seen).begun

-- So it is at each table over an opened store.
abbrev pub TellsKinds : {K : Type 0} → (K → World) → Type 0
TellsKinds {K} at = (key : K) (o : Opened) (n : Now) (bytes : List ℕ) → IsOver at key o n bytes → KeepsKinds (at key)

-- ---- what a kind is
-- this commit uses the checkpoint of the newest of these
abbrev pub UsesTheirs : BegunCommit → List BegunCommit → Type 0
UsesTheirs c [] = ⊥
UsesTheirs c (newest ∷ older) = c.parts.checkpoint ≡ newest.parts.checkpoint

-- A full commit has a checkpoint with its own number, and a log commit has that of the commit before it.
abbrev pub IsOfKind : CommitKind → BegunCommit → List BegunCommit → Type 0
IsOfKind Full c before = c.parts.checkpoint.number ≡ c.number
IsOfKind Log c before = UsesTheirs c before
