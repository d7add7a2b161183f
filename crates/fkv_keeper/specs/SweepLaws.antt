-- What becomes of the sweep of the log's front with each event, and where the log of a commit begins.
use Rattle.std.specs.Prelude.{◌≡◌, ◌⊎◌, Option, true, false, None, Some}
use Rattle.fkv_commit.specs.declared.commits.Commit.{Commit}
use Rattle.fkv_sweep.specs.Sweeping.{is_sweeping, sweep_next, sweep_read, sweep_failed, turn_begun}
use Rattle.fkv_keeper.specs.declared.keepers.Keeping.{Keeping}
use Rattle.fkv_keeper.specs.declared.keepers.Keeping.TheVariants.{Starts, LoadsPhase, Finishes, Sweeps}
use Rattle.fkv_keeper.specs.Keeping.{KeeperState, begin_next, finality_of, sweep_set}
use Rattle.fkv_keeper.specs.KeeperRun.{KeeperEvent, Replies, Calls}

-- It stays, and so does the newest finished commit. No turn of it begins.
pub record IsSweepLeft (s a : KeeperState) : Type 0 where
  pub same : a.sweep ≡ s.sweep
  pub newest : a.last ≡ s.last
  pub none_begins : a.step ≡ Sweeps → s.step ≡ Sweeps

-- Its turn begins, where the phase is loaded. It isn't done, and no commit is in hand.
pub record IsSweepBegun (s a : KeeperState) : Type 0 where
  pub comes : a.step ≡ Sweeps
  pub no_commit : s.commit ≡ None
  pub goes_on : is_sweeping s.sweep ≡ true
  pub same : a.sweep ≡ turn_begun s.sweep

-- The commit in hand is finished, which may set how far the next sweep goes.
pub record IsSweepSet (s a : KeeperState) : Type 0 where
  pub commit : Commit
  pub in_hand : s.commit ≡ Some commit
  pub newest : a.last ≡ finality_of s commit
  pub none_left : a.commit ≡ None
  pub same : a.sweep ≡ sweep_set s commit

-- It goes on by its own replies and reads. Its turn begins where the phase is loaded, and how far it goes is set where a commit is finished. Else it stays.
abbrev pub IsSweepAfter : KeeperEvent → Keeping → KeeperState → KeeperState → Type 0
IsSweepAfter (Replies reply granted) Sweeps s a = a.sweep ≡ sweep_next s.sweep reply
IsSweepAfter (Calls true bytes) Sweeps s a = a.sweep ≡ sweep_read s.sweep bytes
IsSweepAfter (Calls false bytes) Sweeps s a = a.sweep ≡ sweep_failed s.sweep
IsSweepAfter (Replies reply granted) LoadsPhase s a = IsSweepLeft s a ⊎ IsSweepBegun s a
IsSweepAfter (Replies reply granted) Finishes s a = IsSweepLeft s a ⊎ IsSweepSet s a
IsSweepAfter event step s a = IsSweepLeft s a

-- ---- the commit in hand
-- It has just begun: where its log begins, the sweep and the newest finished commit say.
pub record IsBeginChosen (s a : KeeperState) : Type 0 where
  pub starts : s.step ≡ Starts
  pub commit : Commit
  pub in_hand : a.commit ≡ Some commit
  pub begin : commit.begin ≡ begin_next s commit.first

-- It is still in hand, and its log begins where it did.
pub record IsBeginKept (c : Commit) (a : KeeperState) : Type 0 where
  pub commit : Commit
  pub in_hand : a.commit ≡ Some commit
  pub number : commit.number ≡ c.number
  pub begin : commit.begin ≡ c.begin
  pub first : commit.first ≡ c.first

-- A commit's begin is chosen as it begins. It stays until the commit is finished, and is then that of the newest finished one.
abbrev pub IsBeginAfter : Option Commit → KeeperState → KeeperState → Type 0
IsBeginAfter None s a = (a.commit ≡ None) ⊎ IsBeginChosen s a
IsBeginAfter (Some c) s a = IsBeginKept c a ⊎ (((a.commit ≡ None) × (a.last.begin ≡ c.begin)) ⊎ IsBeginChosen s a)
