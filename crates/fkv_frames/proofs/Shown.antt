-- What other crates may cite.
pub use Rattle.fkv_frames.proofs.Open.{same_place}
