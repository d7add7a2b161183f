-- What crates above name of `law_local`.
pub use Rattle.law_local.specs.Sessions
pub use Rattle.law_local.specs.Tries
