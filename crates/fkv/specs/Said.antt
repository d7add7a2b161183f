-- What the clauses of `src` say: they take all of it under one name.
pub use Rattle.clap.specs.Walk.{texts}
pub use Rattle.fkv.specs.AllLives.{ReportsOfAllLives}
pub use Rattle.fkv.specs.Lives.{PrintsInLives}
pub use Rattle.fkv.specs.Media.{devices_of, files_of, holds_of, memory_of, step_of}
pub use Rattle.fkv.specs.Replies.{PrintsMapOfFileScript, PrintsMapOfScript, ReplyLineByLine}
pub use Rattle.fkv_cli.specs.Output.{IsOutputOf}
pub use Rattle.fkv_playing.specs.InTurn.{Writes}
pub use Rattle.fkv_runs.specs.Beginnings.{BreaksOff}
pub use Rattle.fkv_runs.specs.declared.settings.Settings.{Settings}
pub use Rattle.law_program.specs.PlayedCalls.CrashReports.{CrashesTakeWhatIsKept}
pub use Rattle.law_program.specs.PlayedCalls.EachLine.{EachLineGoesOn}
pub use Rattle.law_program.specs.PlayedCalls.Lives.{ArmingGoesOn, LivesGoOn}
pub use Rattle.law_program.specs.PlayedCalls.Runs.{RunsGoOn}
