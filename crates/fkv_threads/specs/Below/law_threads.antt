-- What crates above name of `law_threads`.
pub use Rattle.law_threads.specs.Calls
pub use Rattle.law_threads.specs.Turns
