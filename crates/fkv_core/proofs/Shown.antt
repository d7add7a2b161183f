-- What the crates above may cite of these proofs.
pub use Rattle.fkv_core.proofs.Lengths.{length-before, length-filled, length-frames}
pub use Rattle.fkv_core.proofs.Framed.{framed}
pub use Rattle.fkv_core.proofs.Unswept.{unswept_idle}
