-- What crates above name of `law_refine`.
pub use Rattle.law_refine.specs.Calls
pub use Rattle.law_refine.specs.Events
pub use Rattle.law_refine.specs.Heads
pub use Rattle.law_refine.specs.Index
pub use Rattle.law_refine.specs.Latches
pub use Rattle.law_refine.specs.Mail
pub use Rattle.law_refine.specs.Records
pub use Rattle.law_refine.specs.Results
pub use Rattle.law_refine.specs.Seen
