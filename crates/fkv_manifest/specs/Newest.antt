-- Which commit is in force in an image.
use Rattle.std.specs.Prelude.{ℕ, nat_le, if◌then◌else◌, List, Option, Some, None}
use Rattle.fkv_record.specs.Places.{open_number}
use Rattle.fkv_disk.specs.Bytes.{bytes_at}

-- the bytes of the slot at a place
abbrev pub slot_in : List ℕ → ℕ → List ℕ
slot_in image place = bytes_at image place 512

-- the place of the greater number, and the first one where they are equal
abbrev pub newer : Option ℕ → Option ℕ → Option ℕ
newer None None = None
newer (Some first) None = Some 512
newer None (Some second) = Some 1024
newer (Some first) (Some second) = Some (if nat_le second first then 512 else 1024)

-- The place of the newest slot: among those whose gate is open, the one whose number is greater. None where both are closed.
abbrev pub newest : List ℕ → Option ℕ
newest image = newer (open_number (slot_in image 512)) (open_number (slot_in image 1024))
