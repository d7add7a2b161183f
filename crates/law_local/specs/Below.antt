-- What crates above name of the crates below.
pub mod fkv_log
pub mod fkv_ops
pub mod fkv_pending
pub mod fkv_session
