-- What crates above may cite.
pub use Rattle.fkv_latch.proofs.Actors.{IsActor, WorksOnLatch, in_hand}
pub use Rattle.fkv_latch.proofs.Apart.{sound_apart, sound_counted, tail_latch, shared_stands, exclusive_stands, clear_stands, share_is_taken, share_is_given_back, exclusive_is_lost}
pub use Rattle.fkv_latch.proofs.Asks.{latch_asks, latch_begun_asks, latch_begun_left, latch_goes_on, latch_left, latch_fewer, latch_ask_left, latch_next_left}
pub use Rattle.fkv_latch.proofs.Events.{moves, begins, changes_other, changes_link, SparesActor, spared_stays, AllSpare, run_spared, stays_shared}
pub use Rattle.fkv_latch.proofs.Places.{latch_within, named_latch}
pub use Rattle.fkv_latch.proofs.Sound.{IsSound, happens_sound, run_sound, opening_sound}
pub use Rattle.fkv_latch.proofs.Tails.{HasTail, has_tail}
pub use Rattle.fkv_latch.proofs.Tasks.{task_with, HasMetOne, KnowsTask, StepIsTrue, AtLatch, step_true}
pub use Rattle.fkv_latch.proofs.TaskRuns.{AllKnown, event_known, run_known, opening_known, known_true, known_rest, known_still}
