-- Which stores a shape has room for.
use Rattle.std.specs.Prelude.{◌≡◌, ◌≢◌, ℕ, ◌+◌, ◌*◌, ◌^◌, ◌≤◌, ◌↔◌, List, length, slice_index, Contains, AllPairs}
use Rattle.fkv_base.specs.declared.numbers.Key.{Key}
use Rattle.fkv_base.specs.declared.numbers.Serial.{Serial}
use Rattle.fkv_base.specs.declared.numbers.Value.{Value}
use Rattle.fkv_base.specs.declared.shapes.Shape.{Shape}
use Rattle.fkv_record.specs.Points.{serial_numbers}
use Rattle.fkv_room.specs.Room.{taken}
use Rattle.fkv_renewing.specs.Records.{key_home}

-- the homes of the keys, each once
pub record AreHomesOf (bits : ℕ) (pairs : List (Key × Value)) (homes : List ℕ) : Type 0 where
  pub once : AllPairs (λ x y. x ≢ y) homes
  pub all : (its_home : ℕ) → Contains homes its_home ↔ ((pair : Key × Value) × Contains pairs pair × (key_home bits pair.0 ≡ its_home))

-- The index has a slot for each home: its buckets are filled upwards, and each takes the next overflow buckets.
pub record HasSlots (shape : Shape) (pairs : List (Key × Value)) : Type 0 where
  pub homes : List ℕ
  pub are_homes : AreHomesOf shape.bucket_bits pairs homes
  pub enough : taken homes (2 ^ shape.bucket_bits) ≤ shape.overflow

-- the log has a place for each pair
abbrev pub HasPlaces : Shape → List (Key × Value) → Type 0
HasPlaces shape pairs = length pairs + 1 ≤ shape.disk_pages * shape.page

-- the point of a session, 0 where the list ends before it
abbrev pub point_at : List Serial → ℕ → ℕ
point_at points session = slice_index (serial_numbers points) session

-- no session beyond the shape's has taken a serial
abbrev pub HasSessions : Shape → List Serial → Type 0
HasSessions shape points = (session : ℕ) → shape.sessions ≤ session → point_at points session ≡ 0

-- a store of this shape can hold these points and pairs
pub record HasRoomFor (shape : Shape) (points : List Serial) (pairs : List (Key × Value)) : Type 0 where
  pub slots : HasSlots shape pairs
  pub places : HasPlaces shape pairs
  pub sessions : HasSessions shape points
