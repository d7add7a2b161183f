-- The triples of the checkpoint that a slot names.
use Rattle.std.specs.Prelude.{◌≡◌, ◌≢◌, ℕ, ◌+◌, ◌*◌, ◌^◌, ◌<◌, List, length, slice_get, Some}
use Rattle.fkv_base.specs.declared.faults.Fault.{Fault}
use Rattle.fkv_base.specs.declared.faults.Fault.TheVariants.{Damaged, Device, Memory}
use Rattle.fkv_base.specs.declared.faults.Damage.TheVariants as damage
use Rattle.fkv_base.specs.declared.shapes.Shape.{Shape}
use Rattle.fkv_disk.specs.Bytes.{bytes_at}
use Rattle.fkv_disk.specs.Device.{Rose}
use Rattle.fkv_record.specs.declared.manifest_slots.ManifestSlot.{ManifestSlot}
use Rattle.fkv_record.specs.declared.triples.Triple.{Triple}
use Rattle.fkv_record.specs.Layout.{triple_bytes}
use Rattle.fkv_record.specs.Places.{area_place}
use Rattle.fkv_scan.specs.Log.{triple_home}

-- where a checkpoint's triples lie: an image, its shape, and the slot that names them
pub record Checkpoint : Type 0 where
  pub image : List ℕ
  pub shape : Shape
  pub slot : ManifestSlot

abbrev pub checkpoint_in : List ℕ → Shape → ManifestSlot → Checkpoint
checkpoint_in image its_shape slot = record { image = image; shape = its_shape; slot = slot }

-- the bytes of a triple of the checkpoint spell this one, which is of a bucket of the index and leads below the log's end
pub record IsTripleAt (at : Checkpoint) (i : ℕ) (x : Triple) : Type 0 where
  pub stands : triple_bytes x ≡ bytes_at at.image (area_place at.shape at.slot.area + 16 * i) 16
  pub in_index : x.bucket < 2 ^ at.shape.bucket_bits
  pub in_log : x.addr.0 < at.slot.end.0

-- and its home has no triple before it
pub record IsSoundTriple (at : Checkpoint) (i : ℕ) : Type 0 where
  pub held : Triple
  pub fits : IsTripleAt at i held
  pub first : (j : ℕ) (y : Triple) → j < i → IsTripleAt at j y → triple_home y ≢ triple_home held

-- the first that isn't so
pub record IsTripleFault (at : Checkpoint) (i : ℕ) : Type 0 where
  pub counted : (let slot = at.slot in i < slot.triples)
  pub before : (j : ℕ) → j < i → IsSoundTriple at j
  pub here : IsSoundTriple at i → ⊥

-- these are the checkpoint's triples, all of them, in their order
pub record AreTriples (at : Checkpoint) (triples : List Triple) : Type 0 where
  pub many : (let slot = at.slot in length triples ≡ slot.triples)
  pub each : (i : ℕ) (x : Triple) → slice_get triples i ≡ Some x → IsTripleAt at i x

-- why they can't be read: a fault that stands in the image of an honest device, a failure of the device in this call, or want of memory
abbrev pub IsUnread : ℕ → ℕ → Type 0 → Checkpoint → Fault → Type 0
IsUnread before now premise at (Damaged damage.Triple i) = premise → IsTripleFault at i
IsUnread before now premise at Device = Rose before now
IsUnread before now premise at Memory = Unit {0}
IsUnread before now premise at other = ⊥
