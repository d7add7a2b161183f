-- What crates above name of the crates below.
pub mod fkv_checkpoint
pub mod fkv_commit
pub mod fkv_flush
pub mod fkv_keeper
pub mod fkv_log
pub mod fkv_maintain
pub mod fkv_manifest
pub mod fkv_ops
pub mod fkv_pending
pub mod fkv_session
pub mod fkv_words
pub mod fkv_world
