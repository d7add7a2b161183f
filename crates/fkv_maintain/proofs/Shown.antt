-- What the crates above may cite of these proofs.
pub use Rattle.fkv_maintain.proofs.BeginKept.{maintain_next_begin, maintain_given_begin, maintain_called_begin}
pub use Rattle.fkv_maintain.proofs.GoesOn.{IsLoadOrCall, due_asks, kept_asks}
pub use Rattle.fkv_maintain.proofs.MaintainLeft.{maintain_asked_calls, maintain_left, maintain_begun_left, maintain_serving_left, maintain_fewer, maintain_given_fewer, maintain_called_fewer}
pub use Rattle.fkv_maintain.proofs.ReadsAbove.{maintain_next_above, maintain_given_above, maintain_called_above}
pub use Rattle.fkv_maintain.proofs.TakesNone.{passed_takes, raise_takes, arm_takes}
pub use Rattle.fkv_maintain.proofs.PartsDriven.{drives_its_parts}
pub use Rattle.fkv_maintain.proofs.PartsFollow.{follows_in_order}
pub use Rattle.fkv_maintain.proofs.PartsInOrder.{run_in_order, run_full, serving_goes, serves_alone, calls_in_parts}
