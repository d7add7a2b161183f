-- What the crates above may cite of these proofs.
pub use Rattle.fkv_room.proofs.Entering.{unmet_none}
pub use Rattle.fkv_room.proofs.Listing.{by_cond, in_rest, in_head, in_tail}
pub use Rattle.fkv_room.proofs.Unique.{same_count, same_taken, taken_more, no_full, one_full, no_fault}
