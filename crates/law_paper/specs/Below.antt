-- What crates above name of the crates below.
pub mod fkv_chains
pub mod fkv_newest
pub mod fkv_opening
pub mod fkv_pairs
pub mod fkv_scan
