-- What the crates above may cite of these proofs.
pub use Rattle.fkv_runs.proofs.Foretelling.{LeaveSame, crashes_of_new, reach_if_done, same_later}
pub use Rattle.fkv_runs.proofs.Recovery.{none_behind_calls}
pub use Rattle.fkv_runs.proofs.Told.{appends_kept, breaks_at_once, breaks_behind, breaks_weaker, text_breaks, written_on}
