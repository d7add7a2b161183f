-- What the crates above may cite of these proofs.
pub use Rattle.fkv_begin.proofs.Shown.{from_below, from_on, from_lower, from_some, from_first}
pub use Rattle.fkv_record.proofs.ManifestApart.{Tells, places_at, ranges_at, telling, told, spelled_tells, read_some, read_none}
pub use Rattle.fkv_record.proofs.ManifestBytes.{bytes_read, layout_words, manifest_apart, newest_spelled, third_spelled}
pub use Rattle.fkv_record.proofs.ManifestSections.{length-layout, third_format}
pub use Rattle.fkv_record.proofs.PointApart.{Fills, points_read}
pub use Rattle.fkv_record.proofs.PointPlaces.{Stands, stands, points_read_in}
pub use Rattle.fkv_record.proofs.RangePlaces.{IsFilled, filled, lost_read_in}
pub use Rattle.fkv_record.proofs.RecordApart.{record_numbered}
pub use Rattle.fkv_record.proofs.ShapeApart.{shape_numbered}
pub use Rattle.fkv_record.proofs.SlotApart.{Matches, parted_at, slot_numbered, slot_read}
pub use Rattle.fkv_record.proofs.Spelling.{AreWords, IsNumbered, length-spelled}
pub use Rattle.fkv_record.proofs.TripleApart.{triple_numbered}
