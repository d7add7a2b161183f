-- What crates above may cite.
pub use Rattle.fkv_log.proofs.Asks.{reserve_asks, within_low, fill_asks, invalidate_asks, load_asks, move_begun_asks, move_asks, move_goes_on, shift_begun_asks, shift_asks, shift_goes_on, turn_begun_asks, turn_asks, turn_goes_on}
pub use Rattle.fkv_log.proofs.AsksLeft.{reserve_left, reserve_fewer, reserve_falls, fill_left, fill_fewer, fill_falls, invalidate_left, invalidate_fewer, invalidate_falls, load_left, load_fewer, load_falls, load_later, load_on_left}
pub use Rattle.fkv_log.proofs.NestedLeft.{move_left, move_fewer, move_begun_left, shift_left, shift_fewer, shift_begun_left, turn_left, turn_fewer, turn_begun_left}
