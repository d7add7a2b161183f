-- What crates above may cite.
pub use Rattle.fkv_ops.proofs.AppendAsks.{append_left, append_begun_left, append_fewer}
pub use Rattle.fkv_ops.proofs.AppendRests.{is_append_end, AppendRestsOrAsks, IsAppendUnderWay, append_done, append_begun_under_way, append_begun_asks, append_rests, append_goes_on}
pub use Rattle.fkv_ops.proofs.TryAsks.{try_left, try_begun_left, try_fewer}
pub use Rattle.fkv_ops.proofs.TryRests.{is_try_end, TryRestsOrAsks, try_done, try_begun_rests, try_begun_asks, try_rests}
pub use Rattle.fkv_ops.proofs.WalkAsks.{walk_left, walk_begun_left, walk_fewer, walk_on_left}
pub use Rattle.fkv_ops.proofs.WalkRests.{is_walk_end, WalkRestsOrAsks, IsWalkUnderWay, walk_done, walk_begun_under_way, walk_begun_asks, walk_rests, walk_on_rests, walk_found, walk_goes_on}
pub use Rattle.fkv_ops.proofs.TryRuns.{each_is_true, effects_once, found_true, latches_kept}
pub use Rattle.fkv_ops.proofs.Effected.{effects_true, each_may_stay, shares_first, kinds_so}
pub use Rattle.fkv_ops.proofs.EachAsk.{each_ask}
pub use Rattle.fkv_ops.proofs.LatchRuns.{each_holds, each_leaves}
pub use Rattle.fkv_ops.proofs.GivenBack.{given_back}
pub use Rattle.fkv_ops.proofs.LatchShares.{IsTrying, shares_owed, begun_trying, begun_owes, next_trying, next_owes, AddsThere, adds_there, KeepsShare, ended_keeps}
pub use Rattle.fkv_ops.proofs.SpareRuns.{each_tells_spare, each_uses_spare}
pub use Rattle.fkv_ops.proofs.ChainEnds.{goes_on_from, goes_on_some, ends_below, ends_not, ends_there}
