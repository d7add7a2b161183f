-- What crates above may cite.
pub use Rattle.fkv_checkpoint.proofs.CopyAsks.{copy_fewer, copy_bounded, copy_slots, part_fewer, part_bounded, rests_bounded}
pub use Rattle.fkv_checkpoint.proofs.Told.{StandsAt, next_at, copies_all, copy_ends, copies_triples, copy_fits}
pub use Rattle.fkv_checkpoint.proofs.SlotPlaces.{Keeps, HasGrown, order_long, order_keeps, entry_found, entry_there}
pub use Rattle.fkv_checkpoint.proofs.CopySteps.{StandsIn, StandsHere, IsBefore, IsTold, home_at, IsCopied, index_grown, copy_begins}
pub use Rattle.fkv_checkpoint.proofs.CopyLinks.{step_copied}
pub use Rattle.fkv_checkpoint.proofs.CopyRuns.{IsCopySound, copy_sound, copy_opens, sound_left_out}
