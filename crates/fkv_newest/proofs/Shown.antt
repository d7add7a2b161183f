-- What the crates above may cite of these proofs.
pub use Rattle.fkv_newest.proofs.Counting.{two_passed, second_failed}
pub use Rattle.fkv_newest.proofs.Faultless.{one_index, no_fault, one_fault, told_alike, faults_alike}
