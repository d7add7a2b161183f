-- What crates above name of the crates below.
pub mod fkv_core
pub mod fkv_creating
pub mod fkv_filling
pub use Rattle.law_paper.specs.Below.fkv_chains
pub use Rattle.law_paper.specs.Below.fkv_newest
pub use Rattle.law_paper.specs.Below.fkv_opening
pub use Rattle.law_paper.specs.Below.fkv_pairs
pub use Rattle.law_paper.specs.Below.fkv_scan
pub use Rattle.law_refine.specs.Below.fkv_keeper
pub use Rattle.law_refine.specs.Below.fkv_session
pub use Rattle.law_refine.specs.Below.fkv_world
pub use Rattle.law_refine.specs.Below.law_world
