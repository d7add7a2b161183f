-- What a device has of the log's records.
use Rattle.std.specs.Prelude.{◌≡◌, ℕ, List, [], ◌∷◌}
use Rattle.fkv_base.specs.declared.shapes.Shape.{Shape}
use Rattle.fkv_disk.specs.Bytes.{bytes_at}
use Rattle.law_refine.specs.Below.fkv_ops.Values.{value_of}
use Rattle.fkv_plane.specs.declared.places.RecordWord.{RecordWord}
use Rattle.fkv_plane.specs.declared.places.RecordWord.TheVariants as rec
use Rattle.fkv_record.specs.Numbers.{spelled}
use Rattle.fkv_record.specs.Places as image
use Rattle.law_refine.specs.Below.law_local.Tries.Floors.{LeadsByFloor}
use Rattle.law_log.specs.Chains.{Cell}

-- The bytes have the record at its place: three words of which the first leads where the record does, and the others are its key and its value.
-- Below the log's begin the header may name another address.
pub record IsInImage (begin : ℕ) (shape : Shape) (bytes : List ℕ) (a : ℕ) (cell : Cell) : Type 0 where
  pub words : RecordWord → ℕ
  pub leads : LeadsByFloor begin cell.previous (words rec.Header)
  pub key : words rec.Key ≡ cell.key
  pub value : value_of (words rec.Value) ≡ cell.value
  pub there : bytes_at bytes (image.record_place shape a) 24 ≡ spelled (words rec.Header ∷ words rec.Key ∷ words rec.Value ∷ [])
