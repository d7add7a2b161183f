-- What the crates above may cite of these proofs.
pub use Rattle.fkv_opening.proofs.Exact.{Apart, same_shape, same_slot, one_log, no_fault}
pub use Rattle.fkv_opening.proofs.Warming.{nothing_warm, room_in_ring}
pub use Rattle.fkv_opening.proofs.Refusing.{log_short}
