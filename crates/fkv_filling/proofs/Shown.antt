-- What the crates above may cite of these proofs.
pub use Rattle.fkv_filling.proofs.FilledIndex.{filled_in_order, filled_has_room}
