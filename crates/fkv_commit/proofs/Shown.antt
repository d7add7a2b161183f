-- What crates above may cite.
pub use Rattle.fkv_commit.proofs.Asked.{last_low, start_asked}
pub use Rattle.fkv_commit.proofs.StartLeft.{start_left, start_fewer}
pub use Rattle.fkv_commit.proofs.EnterLeft.{enter_left, enter_begun_left, enter_fewer}
pub use Rattle.fkv_commit.proofs.SeekLeft.{seek_left, seek_begun_left, seek_fewer}
pub use Rattle.fkv_commit.proofs.EndLeft.{wait_left, wait_fewer, finish_left, finish_begun_left, finish_fewer}
pub use Rattle.fkv_commit.proofs.Replies.{by_replies}
pub use Rattle.fkv_commit.proofs.StartTold.{starts_end}
pub use Rattle.fkv_commit.proofs.EnterTold.{enters_end}
pub use Rattle.fkv_commit.proofs.SeekTold.{points_right, seeks_end}
pub use Rattle.fkv_commit.proofs.WaitTold.{waits_end}
pub use Rattle.fkv_commit.proofs.FinishTold.{finishes_end}
pub use Rattle.fkv_commit.proofs.InOrder.{in_order}
pub use Rattle.fkv_commit.proofs.SeekKeeps.{seek_keeps, seek_begun_keeps}
