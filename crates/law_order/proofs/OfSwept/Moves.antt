-- What an event of the keeper does to its sweep, case by case.
use Rattle.std.proofs.Common.{◌≡◌, ◌⊎◌, inl, inr, ℕ, List, refl, Bool, true, false}
use Rattle.law_commit.specs.Below.fkv_keeper.KeeperRun.{BeginsCommit, BeginsTurn, Calls, Gets, KeeperEvent, Replies}
use Rattle.law_commit.specs.Below.fkv_keeper.Keeping.{KeeperState}
use Rattle.law_commit.specs.Below.fkv_keeper.SweepLaws.{IsSweepAfter, IsSweepBegun, IsSweepLeft, IsSweepSet}
use Rattle.law_commit.specs.Below.fkv_keeper.TheKeeping.{Keeping}
use Rattle.law_commit.specs.Below.fkv_keeper.TheKeeping.TheVariants.{Ended, Starts, Maintains, LoadsPhase, Enters, Copies, Seeks, Waits, Writes, Finishes, Sweeps}
use Rattle.fkv_sweep.specs.Sweeping.{sweep_failed, sweep_next, sweep_read}

-- it stays; its turn begins; it is set anew; or it goes on by a reply, by a read, or where a read failed
pub data SweepMove (s a : KeeperState) (event : KeeperEvent) : Type 0 where
  Stays : IsSweepLeft s a → SweepMove s a event
  TurnBegins : IsSweepBegun s a → SweepMove s a event
  IsSet : s.step ≡ Finishes → IsSweepSet s a → SweepMove s a event
  IsReplied : (reply : ℕ) (granted : Bool) → event ≡ Replies reply granted → s.step ≡ Sweeps → a.sweep ≡ sweep_next s.sweep reply → SweepMove s a event
  IsRead : (bytes : List ℕ) → event ≡ Calls true bytes → s.step ≡ Sweeps → a.sweep ≡ sweep_read s.sweep bytes → SweepMove s a event
  ReadFails : s.step ≡ Sweeps → a.sweep ≡ sweep_failed s.sweep → SweepMove s a event

begun_or : (s a : KeeperState) (event : KeeperEvent) → IsSweepLeft s a ⊎ IsSweepBegun s a → SweepMove s a event
begun_or s a event (inl left) = Stays left
begun_or s a event (inr begun) = TurnBegins begun

set_or : (s a : KeeperState) (event : KeeperEvent) → s.step ≡ Finishes → IsSweepLeft s a ⊎ IsSweepSet s a → SweepMove s a event
set_or s a event at (inl left) = Stays left
set_or s a event at (inr set) = IsSet at set

by_reply : (s a : KeeperState) (step : Keeping) (reply : ℕ) (granted : Bool) → s.step ≡ step → IsSweepAfter (Replies reply granted) step s a → SweepMove s a (Replies reply granted)
by_reply s a Sweeps reply granted at after = IsReplied reply granted refl at after
by_reply s a LoadsPhase reply granted at after = begun_or s a (Replies reply granted) after
by_reply s a Finishes reply granted at after = set_or s a (Replies reply granted) at after
by_reply s a (Ended its) reply granted at after = Stays after
by_reply s a Starts reply granted at after = Stays after
by_reply s a Maintains reply granted at after = Stays after
by_reply s a Enters reply granted at after = Stays after
by_reply s a Copies reply granted at after = Stays after
by_reply s a Seeks reply granted at after = Stays after
by_reply s a Waits reply granted at after = Stays after
by_reply s a Writes reply granted at after = Stays after

by_call : (s a : KeeperState) (step : Keeping) (done : Bool) (bytes : List ℕ) → s.step ≡ step → IsSweepAfter (Calls done bytes) step s a → SweepMove s a (Calls done bytes)
by_call s a Sweeps true bytes at after = IsRead bytes refl at after
by_call s a Sweeps false bytes at after = ReadFails at after
by_call s a step true bytes at after = Stays after
by_call s a step false bytes at after = Stays after

pub move_of : (s a : KeeperState) (step : Keeping) (event : KeeperEvent) → s.step ≡ step → IsSweepAfter event step s a → SweepMove s a event
move_of s a step BeginsTurn at after = Stays after
move_of s a step (BeginsCommit kind) at after = Stays after
move_of s a step (Replies reply granted) at after = by_reply s a step reply granted at after
move_of s a step (Gets action) at after = Stays after
move_of s a step (Calls done bytes) at after = by_call s a step done bytes at after
