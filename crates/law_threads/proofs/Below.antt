-- What crates above name of the crates below.
pub mod fkv_table
