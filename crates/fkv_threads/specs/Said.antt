-- What the clauses of `src` say: they take all of it under one name.
pub use Rattle.fkv_base.specs.Limits.{max_pending}
pub use Rattle.fkv_base.specs.declared.commits.CommitKind.TheVariants.{Full}
pub use Rattle.fkv_base.specs.declared.faults.Fault.TheVariants.{Memory}
pub use Rattle.fkv_disk.specs.Asks.{asked_call}
pub use Rattle.fkv_disk.specs.Device.{LeavesOnly}
pub use Rattle.fkv_keeper.specs.KeeperAsks.{keeper_due}
pub use Rattle.fkv_map.specs.declared.operations.Call.TheVariants.{Op}
pub use Rattle.fkv_opening.specs.Opened.{IsStoreOf}
pub use Rattle.law_threads.specs.Below.fkv_table.Calls.{IsLastGiven, IsReady}
pub use Rattle.law_threads.specs.Below.fkv_table.Keeps.{IsAfterSeen, IsKeeperReady}
pub use Rattle.law_threads.specs.Below.fkv_table.Meets.{AreTwoReady, HaveMet, StaysReady}
pub use Rattle.law_threads.specs.Below.fkv_table.Starts.{EachAt}
pub use Rattle.law_threads.specs.Below.fkv_world.Runs.{World}
pub use Rattle.fkv_threads.specs.Begun.{AreFirst, HasBegun, IsFirstWatch, IsOverStore, KeeperHasBegun}
pub use Rattle.fkv_threads.specs.Calling.{HaveRun, IsToldCallOf}
pub use Rattle.fkv_threads.specs.Meetings.{AreOfOneTable, IsMeetingOf, ReadsWhatTheOtherSaw}
pub use Rattle.fkv_threads.specs.Models.{IsWatching, opening, sitting_at, sitting_of, watch_of}
pub use Rattle.fkv_threads.specs.Watches.{HasStepped, IsAskedToCommit, IsDriven, IsHonestlyTold, IsTold, IsTurnOf, is_posted}
pub use Rattle.std.specs.Prelude.{Err, IfOk, OnErr, map}
