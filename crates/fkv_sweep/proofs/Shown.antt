-- What crates above may cite.
pub use Rattle.fkv_sweep.proofs.Actions.{sweep_puts_none, sweep_takes_none}
pub use Rattle.fkv_sweep.proofs.AsksLeft.{sweep_asked, sweep_fewer, sweep_read_fewer, sweep_turn_bounded, sweep_begun_none, sweep_failed_none, sweep_calls}
pub use Rattle.fkv_sweep.proofs.Same.{IsSameSweep, sweep_turn_same, sweep_next_same, sweep_read_same, sweep_failed_same, sweep_event_same}
pub use Rattle.fkv_sweep.proofs.Within.{IsWithin, GoesWithin, sweep_begun_within, sweep_turn_goes, sweep_next_goes, sweep_read_goes, sweep_failed_goes, sweep_event_goes, IsReadAt, sweep_read_at, sweep_done_on, sweep_done}
pub use Rattle.fkv_sweep.proofs.Loads.{IsLoading, sweep_loads, sweep_begun_loading, sweep_turn_loading, sweep_next_loading, sweep_read_loading, sweep_failed_loading, sweep_event_loading}
pub use Rattle.fkv_sweep.proofs.Sound.{SweepKnows, IsSweepSound, sweep_begun_sound, sweep_turn_sound, sweep_next_sound, sweep_read_sound, sweep_failed_sound, sweep_event_sound, sweep_grown_sound, sweep_sound_swept, sweep_sound_above, sweep_sound_loads}
pub use Rattle.fkv_sweep.proofs.Finds.{IsFirstFind, FindsOn, sweep_turn_finds, sweep_next_finds, sweep_read_finds, sweep_failed_finds}
