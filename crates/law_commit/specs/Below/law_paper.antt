-- What crates above name of `law_paper`.
pub use Rattle.law_paper.specs.Kept
pub use Rattle.law_paper.specs.Paper
