-- What a manifest slot says, where it is one of a store of a shape.
use Rattle.std.specs.Prelude.{◌≡◌, ◌≢◌, ℕ, ◌*◌, ◌%◌, ◌<◌, ◌≤◌, length, All, AllPairs}
use Rattle.fkv_base.specs.Limits.{last_version}
use Rattle.fkv_base.specs.declared.classes.StoreClass.TheVariants.{Specified}
use Rattle.fkv_base.specs.declared.shapes.Shape.{Shape}
use Rattle.fkv_marks.specs.Window.{InWindow}
use Rattle.fkv_record.specs.declared.formats.Format.{Format}
use Rattle.fkv_record.specs.declared.formats.Format.TheVariants.{First, Fourth}
use Rattle.fkv_record.specs.declared.lost_ranges.LostRange.{LostRange}
use Rattle.fkv_record.specs.declared.manifest_slots.ManifestSlot.{ManifestSlot}
use Rattle.fkv_record.specs.Places.{most_triples}

-- The commit's number has the parity of the slot, which is 0 or 1. It lies below the last version, since the store goes on in the next one.
pub record HasNumber (index : ℕ) (slot : ManifestSlot) : Type 0 where
  pub few : slot.number < last_version
  pub parity : slot.number % 2 ≡ index

-- the commit's log ends on the device, and not before the scan begins
pub record HasLog (shape : Shape) (slot : ManifestSlot) : Type 0 where
  pub some : 1 ≤ slot.first.0
  pub upwards : slot.first.0 ≤ slot.end.0
  pub on_disk : slot.end.0 ≤ shape.disk_pages * shape.page

-- The checkpoint has no more triples than there is room for. A slot of the first format uses the area of its own index; later ones may use either, and a
-- commit may use an earlier one's checkpoint, if no mark tells of two versions behind it.
pub record HasCheckpoint (shape : Shape) (index : ℕ) (format : Format) (slot : ManifestSlot) : Type 0 where
  pub few : slot.triples ≤ most_triples shape
  pub area : slot.area < 2
  pub own_area : format ≡ First → slot.area ≡ index
  pub no_newer : slot.checkpoint ≤ slot.number
  pub in_window : InWindow shape.class slot.checkpoint slot.number

-- in a specified store the log begins at its first record, and no slot is of the fourth format
abbrev pub IsWhole : Shape → Format → ManifestSlot → Type 0
IsWhole shape format slot = shape.class ≡ Specified → (slot.begin.0 ≡ 1) × (format ≢ Fourth)

-- The log begins at its first record or above it, and not above the address at which the scan starts.
pub record HasBegin (shape : Shape) (format : Format) (slot : ManifestSlot) : Type 0 where
  pub some : 1 ≤ slot.begin.0
  pub before_scan : slot.begin.0 ≤ slot.first.0
  pub whole : IsWhole shape format slot

-- a lost range ends within the scan, and its version is above the checkpoint's number and at most the commit's
pub record IsLostIn (slot : ManifestSlot) (range : LostRange) : Type 0 where
  pub some : slot.first.0 < range.to.0
  pub in_log : range.to.0 ≤ slot.end.0
  pub after_checkpoint : slot.checkpoint < range.version.0
  pub no_newer : range.version.0 ≤ slot.number

-- from one lost range to a later one the versions rise, and the end doesn't fall
pub record Follows (before after : LostRange) : Type 0 where
  pub newer : before.version.0 < after.version.0
  pub no_lower : before.to.0 ≤ after.to.0

-- all lost ranges are so
pub record HasLost (slot : ManifestSlot) : Type 0 where
  pub each : All (IsLostIn slot) slot.lost.ranges.items
  pub rising : AllPairs Follows slot.lost.ranges.items

-- A store of this shape can have such a slot at this index: number, log, begin, checkpoint and lost ranges are in order, and each session has a point.
pub record Suits (shape : Shape) (index : ℕ) (format : Format) (slot : ManifestSlot) : Type 0 where
  pub number : HasNumber index slot
  pub log : HasLog shape slot
  pub begin : HasBegin shape format slot
  pub checkpoint : HasCheckpoint shape index format slot
  pub sessions : length slot.points.serials.items ≡ shape.sessions
  pub lost : HasLost slot
