-- What crates above name of the crates below.
pub mod fkv_threads
pub use Rattle.fkv_threads.specs.Below.fkv_table
pub use Rattle.fkv_threads.specs.Below.fkv_world
