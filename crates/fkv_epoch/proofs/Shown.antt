-- What crates above may cite.
pub use Rattle.fkv_epoch.proofs.Items.{word_written, word_spared, item_written, item_within, item_spared, within_item, same_or, some_same, none_some}
pub use Rattle.fkv_epoch.proofs.Sound.{IsSound}
pub use Rattle.fkv_epoch.proofs.Happens.{no_load, begun_sound, resumed_sound, moved_sound}
pub use Rattle.fkv_epoch.proofs.Outer.{put_sound, seen_sound, changes_sound}
pub use Rattle.fkv_epoch.proofs.Runs.{happens_sound, run_sound, opening_sound, safe_is_seen, safe_is_in_force, claim_is_safe}
pub use Rattle.fkv_epoch.proofs.Held.{held_alone, TakesAction, IsMoved, machine_takes}
pub use Rattle.fkv_epoch.proofs.Facts.{no_load_ahead, in_force_is_no_later, own_epoch_is_no_later, safe_is_below, epoch_is_small, armed_is_raised, bearer_finds_none, claimer_finds_action, no_claim_waits, phase_is_stored}
pub use Rattle.fkv_epoch.proofs.Protected.{holds_no_zero, is_protected, stays_protected}
pub use Rattle.fkv_epoch.proofs.Asking.{protect_asks, refresh_asks, leave_asks, scan_asks, claim_asks, raise_asks, arm_asks}
pub use Rattle.fkv_epoch.proofs.AsksLeft.{protect_left, protect_fewer, protect_falls, refresh_left, refresh_fewer, refresh_falls, refresh_later, refresh_finish_left, leave_left, leave_fewer, leave_falls}
pub use Rattle.fkv_epoch.proofs.AsksLeft.{scan_left, scan_fewer, scan_falls, claim_left, claim_fewer, claim_given_fewer, claim_falls, raise_left, raise_fewer, raise_falls, raise_later, raise_on_left, arm_left, arm_fewer, arm_falls}
pub use Rattle.fkv_epoch.proofs.RaiseRange.{next_in_range, on_in_range, ask_in_range, next_ask_in_range, next_ask_asks}
