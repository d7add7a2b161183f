-- What crates above name of `fkv_newest`.
pub use Rattle.fkv_newest.specs.Manifest
pub use Rattle.fkv_newest.specs.Newest
pub use Rattle.fkv_newest.specs.declared.newest_slots.Newest as TheNewest
