-- What the crates above may cite of these proofs.
pub use Rattle.fkv_texts.proofs.Appending.{appends_both, appends_nothing}
