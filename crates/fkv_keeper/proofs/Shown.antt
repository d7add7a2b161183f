-- What the crates above may cite of these proofs.
pub use Rattle.fkv_keeper.proofs.BeginMoves.{run_begins}
pub use Rattle.fkv_keeper.proofs.GoesOn.{MovesNone, due_asks, kept_moves}
pub use Rattle.fkv_keeper.proofs.HandBusy.{run_ended}
pub use Rattle.fkv_keeper.proofs.KeeperBegun.{begin_bounded, turn_bounded}
pub use Rattle.fkv_keeper.proofs.KeeperDevice.{keeper_asked_calls}
pub use Rattle.fkv_keeper.proofs.KeeperDue.{makes_due}
pub use Rattle.fkv_keeper.proofs.KeeperFewer.{keeper_fewer, keeper_given_fewer, keeper_called_fewer, ended_none}
pub use Rattle.fkv_keeper.proofs.KeeperLeft.{keeper_left}
pub use Rattle.fkv_keeper.proofs.NewKeepers.{new_is_opened}
pub use Rattle.fkv_keeper.proofs.SweepMoves.{begin_moves, sweep_moves}
pub use Rattle.fkv_keeper.proofs.SweepRuns.{IsKept, IsOfStore, event_on, in_hand_on, new_of_store, run_kept, run_loading, run_of_store, run_on, run_within, sweep_kept}
pub use Rattle.fkv_keeper.proofs.WholeCalls.{run_joins}
pub use Rattle.fkv_keeper.proofs.KeeperCalls.{calls_one, done_calls}
pub use Rattle.fkv_keeper.proofs.KeeperRuns.{IsSound, run_sound, run_broken, run_finished, run_memory, run_number, run_rests, copy_again}
pub use Rattle.fkv_keeper.proofs.Rests.{BeginsRest, BreaksInRest, EndsRest, RestsStill, begins_rest, each_rests, rest_ends, rests_still}
pub use Rattle.fkv_keeper.proofs.Classes.{run_class}
pub use Rattle.fkv_keeper.proofs.CheckpointMoves.{each_move, WasInHand, was_in_hand}
pub use Rattle.fkv_keeper.proofs.CheckpointStores.{run_spares, run_stores}
pub use Rattle.fkv_keeper.proofs.CheckpointUsed.{come_behind, run_used}
pub use Rattle.fkv_keeper.proofs.CheckpointWrites.{run_holds, run_writes}
