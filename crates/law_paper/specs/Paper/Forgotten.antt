-- Bytes of an image that count for nothing: those of records below the begin of its log.
use Rattle.std.specs.Prelude.{◌≡◌, ℕ, ◌<◌, ◌≤◌, List, length}
use Rattle.fkv_disk.specs.Bytes.{byte_at}
use Rattle.fkv_newest.specs.Newest.{IsNewestOf}
use Rattle.fkv_newest.specs.declared.newest_slots.Newest.{Newest}
use Rattle.fkv_record.specs.Places.{record_place}

-- The byte is one of a record below the begin that the image's newest slot names, or of the place that no record has.
pub record IsForgotten (image : List ℕ) (i : ℕ) : Type 0 where
  pub newest : Newest
  pub its : IsNewestOf image newest
  pub from_on : (let n = newest in record_place n.shape 0 ≤ i)
  pub below : (let n = newest in let s = n.slot in i < record_place n.shape s.begin.0)

-- Another image has all bytes of this one but those, for which it may have any. It is as long. So it is where the front of a file was given back.
pub record AgreeFrom (image other : List ℕ) : Type 0 where
  pub long : length other ≡ length image
  pub same : (i : ℕ) → (IsForgotten image i → ⊥) → byte_at image i ≡ byte_at other i
