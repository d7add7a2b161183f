-- What the crates above may cite of these proofs.
pub use Rattle.fkv_manifest.proofs.Carried.{does_after, step_after}
pub use Rattle.fkv_manifest.proofs.Elsewhere.{range_spared, store_spared}
pub use Rattle.fkv_manifest.proofs.Along.{Outcome, MayBeLeft, AllGood, IsSound, run_sound, all_good, written_new, closes_open}
pub use Rattle.fkv_manifest.proofs.Following.{finishes, may_be_left}
pub use Rattle.fkv_manifest.proofs.Order.{in_order, all_written}
pub use Rattle.fkv_manifest.proofs.Settled.{IsSettled, settled, left_same, sure_all}
pub use Rattle.fkv_manifest.proofs.Spelled.{slot_spelled, newest_spelled}
pub use Rattle.fkv_manifest.proofs.ToCome.{calls_to_come, all_to_come, come_next, fewer_to_come, none_to_come}
