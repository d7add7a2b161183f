-- What crates above name of the crates below.
pub mod fkv_table
pub use Rattle.law_order.specs.Below.fkv_core
pub use Rattle.law_order.specs.Below.fkv_world
pub use Rattle.law_order.specs.Below.law_opening
