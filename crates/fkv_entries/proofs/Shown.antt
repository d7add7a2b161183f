-- What the crates above may cite of these proofs.
pub use Rattle.fkv_entries.proofs.Counting.{words_counted, in_room}
