-- What crates above name of the crates below.
pub mod law_threads
pub use Rattle.law_threads.specs.Below.fkv_core
pub use Rattle.law_threads.specs.Below.fkv_table
pub use Rattle.law_threads.specs.Below.fkv_world
