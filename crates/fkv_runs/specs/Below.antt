-- What crates above name of the crates below.
pub mod fkv_playing
pub use Rattle.fkv_playing.specs.Below.fkv_core
