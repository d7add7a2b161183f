-- What the crates above may cite of these proofs.
pub use Rattle.fkv_playing.proofs.Turns.{one_more, one_more_written, next_taken, none_written}
