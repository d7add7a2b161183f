-- What a new store is.
use Rattle.std.specs.Prelude.{◌≡◌, ℕ, ◌≤◌, Bool, true, false, List, [], ◌∷◌, length, drop, max, replicate, Some, None}
use Rattle.fkv_base.specs.declared.shapes.Shape.{Shape}
use Rattle.fkv_disk.specs.Bytes.{byte_at, written}
use Rattle.fkv_disk.specs.Device.{LeavesOnly, after}
use Rattle.fkv_disk.specs.Kinds.{Kind, Writing, Syncing}
use Rattle.fkv_newest.specs.declared.newest_slots.Newest.{Newest}
use Rattle.fkv_newest.specs.Newest.{IsNewestOf}
use Rattle.fkv_opening.specs.declared.opened_store.Opened.{Opened}
use Rattle.fkv_record.specs.declared.formats.Format.TheVariants.{Third}
use Rattle.fkv_record.specs.declared.manifest_slots.ManifestSlot.{ManifestSlot}
use Rattle.fkv_record.specs.Layout.{shape_bytes}
use Rattle.fkv_record.specs.Manifest.{SlotSaid, newest_bytes}
use Rattle.fkv_record.specs.Points.{serial_numbers}
use Rattle.fkv_creating.specs.Long.{IsLong}

-- A slot of commit 0: the log begins and ends at address 1, the checkpoint is its own and has no triples, no session has taken a serial, and no record
-- is lost.
pub record IsNewSlot (sessions : ℕ) (slot : ManifestSlot) : Type 0 where
  pub number : slot.number ≡ 0
  pub first : slot.first.0 ≡ 1
  pub end : slot.end.0 ≡ 1
  pub triples : slot.triples ≡ 0
  pub area : slot.area ≡ 0
  pub points : serial_numbers slot.points.serials.items ≡ replicate sessions 0
  pub checkpoint : slot.checkpoint ≡ 0
  pub lost : slot.lost.ranges.items ≡ []
  pub begin : slot.begin.0 ≡ 1

-- A store of this shape is new: such a slot, in the third format, is the newest, and it alone is open.
pub record IsNew (shape : Shape) (n : Newest) : Type 0 where
  pub its_shape : n.shape ≡ shape
  pub index : n.index ≡ 0
  pub format : n.format ≡ Third
  pub slot : IsNewSlot shape.sessions n.slot
  pub open_0 : n.open_numbers.0 ≡ Some 0
  pub open_1 : n.open_numbers.1 ≡ None

-- An opened store of this shape is new: commit 0 is its newest and its checkpoint, the log begins and ends at address 1, no session has taken a serial, no home
-- has an entry, no record is lost, and the gate of slot 0 alone is open.
pub record IsNewStore (shape : Shape) (store : Opened) : Type 0 where
  pub its_shape : store.shape ≡ shape
  pub number : store.number.0 ≡ 0
  pub begin : store.begin.0 ≡ 1
  pub tail : store.tail.0 ≡ 1
  pub points : serial_numbers store.points.items ≡ replicate shape.sessions 0
  pub gate_0 : store.gates.0 ≡ true
  pub gate_1 : store.gates.1 ≡ false
  pub checkpoint : store.checkpoint.number.0 ≡ 0
  pub first : store.checkpoint.first.0 ≡ 1
  pub triples : store.checkpoint.triples ≡ 0
  pub area : store.checkpoint.area ≡ 0
  pub entries : store.entries.items ≡ []
  pub lost : store.lost.items ≡ []

-- behind the first 1,536 bytes all is as it was, and the image ends where it ended, or with those bytes where it was shorter
pub record SparesRest (old image : List ℕ) : Type 0 where
  pub end : length image ≡ max (length old) 1536
  pub same : (i : ℕ) → 1536 ≤ i → byte_at image i ≡ byte_at old i

-- A new store of this shape was made by eight calls: the device reads as one, which is long, and a crash leaves just that.
pub record HoldsNew {D : Type 0} (seen : D → List ℕ) (may_leave : D → List ℕ → Type 0) (refuses : D → ℕ → Bool) (shape : Shape) (old new : D) : Type 0 where
  pub newest : Newest
  pub is_new : IsNew shape newest
  pub told : IsNewestOf (seen new) newest
  pub long : IsLong (seen new) newest.shape newest.slot
  pub spared : SparesRest (seen old) (seen new)
  pub synced : LeavesOnly (seen new) (may_leave new)
  pub calls : refuses new ≡ after 8 (refuses old)

-- the bytes after the four writes: zeros at the front, the block over them, the slot from its ninth byte on, and its gate
unfoldable pub laid : List ℕ → List ℕ → List ℕ → List ℕ
laid old block slot = written (written (written (written old 0 (replicate 1536 0)) 0 block) 520 (drop 8 slot)) 512 (165 ∷ [])

-- the eight calls, each of which succeeds
unfoldable pub laid_kinds : List ℕ → List ℕ → List Kind
laid_kinds block slot =
    Writing 0 (replicate 1536 0) true ∷ Syncing true ∷ Writing 0 block true ∷ Syncing true ∷ Writing 520 (drop 8 slot) true ∷ Syncing true ∷ Writing 512 (165 ∷ []) true ∷ Syncing true ∷ []

-- An image is as `create` leaves one: its newest slot is that of a new store of this shape, and it is long.
pub record IsCreated (shape : Shape) (image : List ℕ) : Type 0 where
  pub newest : Newest
  pub is_new : IsNew shape newest
  pub told : IsNewestOf image newest
  pub long : IsLong image newest.shape newest.slot

-- what the slot of commit 0 says, where a store has so many sessions
abbrev pub new_said : ℕ → SlotSaid
new_said sessions = record { number = 0; first = record { 0 = 1 }; end = record { 0 = 1 }; triples = 0; area = 0; points = replicate sessions (record { 0 = 0 }); checkpoint = 0; lost = []; begin = record { 0 = 1 } }

-- the bytes of a new store of a shape, over a device that holds these
abbrev pub created_bytes : List ℕ → Shape → List ℕ
created_bytes old shape = laid old (shape_bytes shape) (newest_bytes (new_said shape.sessions))

-- and the calls that make them
abbrev pub created_kinds : Shape → List Kind
created_kinds shape = laid_kinds (shape_bytes shape) (newest_bytes (new_said shape.sessions))
