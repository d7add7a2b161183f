-- What crates above name of `fkv_room`.
pub use Rattle.fkv_room.proofs.Shown
