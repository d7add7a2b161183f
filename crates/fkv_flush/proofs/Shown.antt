-- What crates above may cite.
pub use Rattle.fkv_flush.proofs.Asks.{flush_asks, serve_asks}
pub use Rattle.fkv_flush.proofs.AsksLeft.{flush_most, flush_left, flush_fewer, flush_ends, flush_done_fewer, flush_failed_none, serve_left, serve_begun_left, serve_fewer, serve_read_fewer}
pub use Rattle.fkv_flush.proofs.Guard.{Known, Fresh, Guard, SeesOn}
pub use Rattle.fkv_flush.proofs.GuardSound.{IsAhead, RaiseKnows, MoveKnows, Waits, ShiftKnows, TurnKnows, Knows, IsSound, Awake, machine_of, machine_at}
pub use Rattle.fkv_flush.proofs.GuardLaw.{happens_sound, run_sound, opening_sound, covered, undecided_fresh}
pub use Rattle.fkv_flush.proofs.GuardSeeing.{keeps_seen}
pub use Rattle.fkv_flush.proofs.GuardEpochs.{Spares, spared, stepped_spared, runs}
pub use Rattle.fkv_flush.proofs.GuardUnwritten.{unwritten, OpensIt, limit_stays, limit_rises, RaisesIt, flushed_stays}
pub use Rattle.fkv_flush.proofs.GuardWrites.{writes_passed, guards_writes}
pub use Rattle.fkv_flush.proofs.GuardPages.{guards_limit}
pub use Rattle.fkv_flush.proofs.GuardStays.{same_store, SameStore}
pub use Rattle.fkv_flush.proofs.GuardFlushed.{steady, stood_open, same_shape, IsFlushed, run_flushed, opening_flushed, is_synced}
pub use Rattle.fkv_flush.proofs.InHand.{in_hand, next_part}
pub use Rattle.fkv_flush.proofs.GuardMail.{IsMailKept, happens_mail, changes_mail, run_mail, opening_mail, finds_asked}
pub use Rattle.fkv_flush.proofs.GuardMailPlaces.{IsMail}
pub use Rattle.fkv_flush.proofs.GuardMailAsks.{keeps_own, keeps_other}
pub use Rattle.fkv_flush.proofs.Calm.{same_calm, then_calm, event_calm, events_calm, same_stores}
pub use Rattle.fkv_flush.proofs.Undecided.{next_undecided, undecided_on, happens_apart, run_apart, opening_apart}
pub use Rattle.fkv_flush.proofs.Limit.{happens_paged, run_paged, opening_paged}
pub use Rattle.fkv_flush.proofs.Slots.{finds_slots}
pub use Rattle.fkv_flush.proofs.Still.{not_written, framed_still, stands_still}
pub use Rattle.fkv_flush.proofs.OneEvent.{event_near, one_event, each_event}
pub use Rattle.fkv_flush.proofs.Follows.{runs_now, run_now, put_twice, put_there, goes_first, goes_on, begins, resumes, moves_machine, moves_work, calls, reads, sees, publishes, updates, raises_read_only, raises_for, changes, Likeness, FitsMachine, FitsWork, Fits, Follows}
pub use Rattle.fkv_flush.proofs.SoFar.{refreshed_so_far, protected_so_far, protected_then, refreshed_so, protected_so}
pub use Rattle.fkv_flush.proofs.OuterPlaces.{session_is_outer, bucket_is_outer, overflow_is_outer, phase_is_outer, taken_is_outer}
pub use Rattle.fkv_flush.proofs.Goes.{Goes, shift_goes, turn_goes}
pub use Rattle.fkv_flush.proofs.PhaseTails.{TailsOn, tails_on, Found, HaveFound, TailSound, happens_tails, run_tails, keeps_tails, opening_tails}
pub use Rattle.fkv_flush.proofs.Armings.{IsAboutToArm, about_to_arm_on}
pub use Rattle.fkv_flush.proofs.SafeRaise.{RaisesSafe, safe_stays}
pub use Rattle.fkv_flush.proofs.Permitted.{IsNoUpdate, no_update_permitted, permitted_on, one_permitted}
