-- What crates above may cite: the other modules of proofs are this crate's own.
pub use Rattle.fkv_disk.specs.Stays.{length-listed, length-written, reads_within}
pub use Rattle.fkv_disk.proofs.BytesLemmas.{byte_at-listed, is_listed, byte_at_past, covered, in_range, before_range, after_range, range_end_is}
pub use Rattle.fkv_disk.proofs.BytesLemmas.{byte_at-written_in, byte_at-written_out, byte_at-bytes_at, length-bytes_at}
pub use Rattle.fkv_disk.proofs.Left.{sure_in, sure_out, reads_out, torn_bytes}
pub use Rattle.fkv_disk.proofs.Images.{reads_all, synced_image, opened_image, kept_range, written_and_synced, untouched_by, anything_in_range}
pub use Rattle.fkv_disk.proofs.Carry.{is_opened, after_same, after_write, after_sync, after_failed_sync}
pub use Rattle.fkv_disk.proofs.Moments.{started, goes_on, goes_on_to}
pub use Rattle.fkv_disk.proofs.Counting.{after_is, no_call, more_calls, fewer_pass}
pub use Rattle.fkv_disk.proofs.Asking.{no_read, one_read, more_reads, one_sync, reads_behind}
pub use Rattle.fkv_disk.proofs.Quieter.{quiet_call, quiet_still, quiet_on}
