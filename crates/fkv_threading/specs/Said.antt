-- What the clauses of `src` say: they take all of it under one name.
pub use Rattle.fkv_base.specs.declared.faults.Fault.TheVariants.{BadShape, Device, Memory}
pub use Rattle.fkv_disk.specs.Device.{LeavesOnly}
pub use Rattle.fkv_opening.specs.Opened.{IsStoreOf}
pub use Rattle.fkv_options.specs.RunFault.{ended_status}
pub use Rattle.fkv_threads.specs.Below.fkv_table.Starts.{EachAt}
pub use Rattle.fkv_texts.specs.Refusals.{last_refusal}
pub use Rattle.fkv_runs.specs.Beginnings.{BreaksOff}
pub use Rattle.fkv_runs.specs.Below.fkv_playing.InTurn.{Writes}
pub use Rattle.fkv_thread_scripts.specs.Reports.{agrees, ended, threads_report_text}
pub use Rattle.fkv_threading.specs.Program.{IsEndIn, IsRunOfBytes, IsRunOfInput, IsTextOnThreads, TellsLine, WithSomeStatus, line_fault_text, script_limit}
pub use Rattle.fkv_threading.specs.Refused.{AreSizes, IsEndInFile, IsEndInMemory, IsUnplayed, IsUnreported, IsWithoutReport, WhyClosed, WithSomeTrouble}
pub use Rattle.fkv_threading.specs.Told.{AreLogs, AreSeated, HasMade, IsKept, IsPlayed, IsTold, KeeperPlace, Part, WasKept, WasTold, WerePlayed, begun_by, fault_by, finish_by, is_full, is_own, part_at, part_of, point_at}
pub use Rattle.fkv_threading.specs.Written.{HasSizes, HoldsLeft, IsMirrorOf, IsOpenedAgain, IsPlayedNew, IsReportOfRun, IsReportOn, IsRunOnThreads, ReadsAsNothing, refused_status, reported_status, reported_text}
pub use Rattle.fkv_threading.specs.declared.programs.NoReport.TheVariants.{Closed, Refused}
pub use Rattle.fkv_threads.specs.Begun.{AreFirst}
pub use Rattle.fkv_threads.specs.Models.{Opening, opening}
pub use Rattle.std.specs.Io.KnownBytes.{Appends, Keeps}
pub use Rattle.std.specs.Prelude.{Err, IfErr, IfOk, IfSome, Ok, OnErr, OnOk, codes, option_map, slice_get, string_bytes, take}
