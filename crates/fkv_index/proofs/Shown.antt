-- What crates above may cite.
pub use Rattle.fkv_index.proofs.Asks.{find_asks, next_fewer, find_counted, next_counted, publish_asks, publish_fewer, publish_counted, publish_next_counted}
pub use Rattle.fkv_index.proofs.HomesThere.{homes_are_there}
pub use Rattle.fkv_index.proofs.Orders.{IsDeep, deep_few, deep_first, deep_more, deep_link}
pub use Rattle.fkv_index.proofs.Distinct.{once_few}
pub use Rattle.fkv_index.proofs.Owned.{listed_taken}
pub use Rattle.fkv_index.proofs.Index.{among_real}
pub use Rattle.fkv_index.proofs.Begun.{IsReading, IsBegun}
pub use Rattle.fkv_index.proofs.Rows.{Stands, SeekKnows, EnterKnows, WorkKnows}
pub use Rattle.fkv_index.proofs.Runs.{IsSound, HasHappened, event_happened, run_sound, opening_sound, sound_answers, sound_spares, sound_reads, sound_slots}
pub use Rattle.fkv_index.proofs.Losing.{sound_lost}
pub use Rattle.fkv_index.proofs.Searches.{sound_writes, sound_lists, spoiled_end}
pub use Rattle.fkv_index.proofs.Purposes.{MayLink, IsNoMiss, LedSo, led_so, update_led, read_led, led_may, sound_purposes, sound_full}
pub use Rattle.fkv_index.proofs.EntrySteps.{sound_entries, sound_publishes, event_entries}
pub use Rattle.fkv_index.proofs.OrderSteps.{sound_filled, sound_tags, event_orders}
pub use Rattle.fkv_index.proofs.Empty.{empty_is_index}
