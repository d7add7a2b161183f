-- What crates above name of `law_opening`.
pub use Rattle.law_opening.specs.Lives
pub use Rattle.law_opening.specs.Log
