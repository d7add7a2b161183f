-- What the clauses of `src` say: they take all of it under one name.
pub use Rattle.fkv_runs.specs.Below.fkv_playing.Players.{EngineStep, IsArmed}
pub use Rattle.fkv_runs.specs.Openings.{Holds, medium_of}
pub use Rattle.fkv_runs.specs.declared.settings.Settings.{Settings}
pub use Rattle.law_program.specs.PlayedCalls.AllLives.{ArmsShown, ReportsOverLives}
pub use Rattle.law_program.specs.PlayedCalls.CrashReports.{CrashesTakeWhatIsKept}
pub use Rattle.law_program.specs.PlayedCalls.EachLine.{EachLineGoesOn}
pub use Rattle.law_program.specs.PlayedCalls.FewCalls.{ArmsKeepSeats}
pub use Rattle.law_program.specs.PlayedCalls.Interleaved.{FinishesGoOn, FittingCallsMakeQueues, GroupsGoOn, QuietLivesAreShown}
pub use Rattle.law_program.specs.PlayedCalls.Lives.{ArmingGoesOn, LivesGoOn, fuse_may_leave, fuse_seen}
pub use Rattle.law_program.specs.PlayedCalls.NewFiles.{NewFilesPlayMap, NewStoresBeginQuiet}
pub use Rattle.law_program.specs.PlayedCalls.Noted.{ArmsKeepNotes, CallsMakeIdleQueues, FinishesAreNoted, GroupsAreNoted}
pub use Rattle.law_program.specs.PlayedCalls.PlayedCalls.{LinesGoOn, LinesReplyAsMap, RepliesAsMap}
pub use Rattle.law_program.specs.PlayedCalls.Runs.{ArmsInLife, RunsGoOn}
pub use Rattle.law_program.specs.PlayedCalls.Scripts.{FilesPlayMap, LivesPlayMap, NewStoresPlayMap}
