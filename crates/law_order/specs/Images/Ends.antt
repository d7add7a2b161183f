-- Where the commit ends whose writes have begun.
use Rattle.std.specs.Prelude.{◌≡◌, ⊤, ℕ, ◌≤◌, Some}
use Rattle.law_commit.specs.Below.fkv_commit.Commit.{Commit}
use Rattle.law_commit.specs.Below.fkv_keeper.TheKeeping.{Keeping}
use Rattle.law_commit.specs.Below.fkv_keeper.TheKeeping.TheVariants.{Writes, Finishes}
use Rattle.law_commit.specs.Below.fkv_keeper.Keeping.{KeeperState}

-- the commit in hand ends at or below an address
abbrev pub CommitEndsBy : ℕ → KeeperState → Type 0
CommitEndsBy most s = (c : Commit) → s.commit ≡ Some c → c.end.0 ≤ most

-- it does while it is written, and in its finish
abbrev pub WrittenEndsBy : ℕ → KeeperState → Keeping → Type 0
WrittenEndsBy most s Writes = CommitEndsBy most s
WrittenEndsBy most s Finishes = CommitEndsBy most s
WrittenEndsBy most s step = ⊤
