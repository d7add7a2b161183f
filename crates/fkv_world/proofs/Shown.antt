-- What the crates above may cite of these proofs.
pub use Rattle.fkv_world.proofs.CallsAdded.{added_calls, added_opened}
unfoldable pub use Rattle.fkv_world.proofs.CallsAdded.{calls_added}
pub use Rattle.fkv_world.proofs.Device.{asks_while_done, failed_broken, not_done_broken}
pub use Rattle.fkv_world.proofs.Others.{is_over, keeper_apart, keeper_aparts, keeper_own, lived, lives, places_stay, session_apart, session_aparts, session_own, session_written, shape_stays}
unfoldable pub use Rattle.fkv_world.proofs.Others.{world_of}
pub use Rattle.fkv_world.proofs.OwnRuns.{goes_so, happens_keeper, happens_session, keeper_runs, keeper_runs_on, same_seat, session_runs, session_runs_on}
