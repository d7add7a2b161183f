-- What the clauses of `src` say: they take all of it under one name.
pub use Rattle.law_order.specs.Below.fkv_keeper.Keeping.{KeeperState}
pub use Rattle.law_order.specs.Below.fkv_session.Sessions.{SessionState}
pub use Rattle.law_wrong_runs.specs.ShortImages.{AreShortImages}
pub use Rattle.law_wrong_runs.specs.WrongCommits.{AreWrongCommits}
pub use Rattle.law_wrong_runs.specs.WrongLives.{AreWrongLives}
pub use Rattle.law_wrong_runs.specs.WrongPrefixes.{AreWrongPrefixes}
pub use Rattle.law_wrong_runs.specs.WrongImages.{AreWrongImages}
