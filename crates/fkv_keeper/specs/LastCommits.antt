-- The newest finished commit, and the areas and slots that the next one uses.
use Rattle.std.specs.Prelude.{ℕ, ◌==◌, ◌%◌, min, if◌then◌else◌, Bool, true, List, map, take, slice_get}
use Rattle.std.specs.List.{range_with_len}
use Rattle.fkv_base.specs.Limits.{last_serial}
use Rattle.fkv_base.specs.declared.numbers.Addr.{Addr}
use Rattle.fkv_base.specs.declared.numbers.Serial.{Serial}
use Rattle.fkv_base.specs.declared.numbers.Version.{Version}
use Rattle.fkv_record.specs.declared.lost_ranges.LostRange.{LostRange}
use Rattle.fkv_record.specs.Manifest.{SlotSaid, newest_bytes}
use Rattle.fkv_commit.specs.Finishing.{point_of}
use Rattle.fkv_keeper.specs.declared.last_commits.Area.{Area}
use Rattle.fkv_keeper.specs.declared.last_commits.Area.TheVariants.{First, Second}
use Rattle.fkv_keeper.specs.declared.last_commits.Checkpoint.{Checkpoint}

abbrev pub other_area : Area → Area
other_area First = Second
other_area Second = First

abbrev pub area_number : Area → ℕ
area_number First = 0
area_number Second = 1

-- slots take turns
abbrev pub is_gate_open : Bool × Bool → Version → Bool
is_gate_open gates number = if number.0 % 2 == 0 then gates.0 else gates.1

abbrev pub gate_opened : Bool × Bool → Version → Bool × Bool
gate_opened gates number = if number.0 % 2 == 0 then (true, gates.1) else (gates.0, true)

abbrev pub slot_place : Version → ℕ
slot_place number = if number.0 % 2 == 0 then 512 else 1024

-- a session's point, within the limit of serials
abbrev pub point_written : List Serial → ℕ → Serial
point_written points session = record { 0 = min (point_of (slice_get points session)) last_serial }

-- a point for each session, in their order
abbrev pub points_written : ℕ → List Serial → List Serial
points_written sessions points = map (λ session. point_written points session) (range_with_len 0 sessions)

-- a slot stores so many lost ranges, at most
abbrev pub lost_written : List LostRange → List LostRange
lost_written lost = take 8 lost

-- what the slot of a commit says: its number, where its log begins and ends, its points, the checkpoint that it uses, and the lost ranges
abbrev pub slot_said : ℕ → Version → Addr → Addr → Checkpoint → List Serial → List LostRange → SlotSaid
slot_said sessions number begin end checkpoint points lost = record {
  number = number.0;
  first = checkpoint.first;
  end = end;
  triples = checkpoint.triples;
  area = area_number checkpoint.area;
  points = points_written sessions points;
  checkpoint = checkpoint.number.0;
  lost = lost_written lost;
  begin = begin;
}

-- its bytes, as a slot is written
abbrev pub slot_written : ℕ → Version → Addr → Addr → Checkpoint → List Serial → List LostRange → List ℕ
slot_written sessions number begin end checkpoint points lost = newest_bytes (slot_said sessions number begin end checkpoint points lost)
