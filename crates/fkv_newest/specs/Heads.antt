-- What stands before the areas of an image.
use Rattle.std.specs.Prelude.{◌≡◌, ℕ, ◌==◌, if◌then◌else◌, List}
use Rattle.fkv_disk.specs.Bytes.{bytes_at}
use Rattle.fkv_manifest.specs.Newest.{slot_in}
use Rattle.fkv_newest.specs.declared.heads.Head.{Head}

-- the block of the shape, and the two manifest slots
pub record IsHeadOf (image : List ℕ) (head : Head) : Type 0 where
  pub block : head.block ≡ bytes_at image 0 64
  pub slot_0 : head.slot_0 ≡ slot_in image 512
  pub slot_1 : head.slot_1 ≡ slot_in image 1024

-- the slot with an index, 0 or 1
abbrev pub slot_of : Head → ℕ → List ℕ
slot_of head index = if index == 0 then head.slot_0 else head.slot_1
