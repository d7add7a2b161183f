-- What the crates above may cite of these proofs.
pub use Rattle.fkv_scan.proofs.Faultless.{no_fault}
pub use Rattle.fkv_scan.proofs.Greatest.{below_or_not, at_or_below, none_at_start, none_more, greatest_same, greatest_is_some}
pub use Rattle.fkv_scan.proofs.Keys.{bool_is, is_same, at_itself, at_same, some_is, got, kept_some, new_some, some_of}
pub use Rattle.fkv_scan.proofs.Meets.{rose_before}
pub use Rattle.fkv_scan.proofs.Standing.{stands_read, alone_read, none_read}
pub use Rattle.fkv_scan.proofs.Triples.{got_more, still_there, last_there}
