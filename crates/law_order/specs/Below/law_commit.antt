-- What crates above name of `law_commit`.
pub use Rattle.law_commit.specs.Accepted
pub use Rattle.law_commit.specs.BegunCommits
pub use Rattle.law_commit.specs.CommitParts
pub use Rattle.law_commit.specs.FinishedCommits
pub use Rattle.law_commit.specs.HeldCommits
pub use Rattle.law_commit.specs.LastSerials
pub use Rattle.law_commit.specs.PrefixPast
pub use Rattle.law_commit.specs.ToldDurable
pub use Rattle.law_commit.specs.ToldPoints
