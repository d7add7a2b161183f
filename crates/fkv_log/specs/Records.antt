-- Where the records of open addresses have their words.
use Rattle.std.specs.Prelude.{◌≡◌, ℕ, ◌+◌}
use Rattle.fkv_base.specs.declared.shapes.Shape.{Shape}
use Rattle.fkv_frames.specs.Pages.{ring_of, place_of}
use Rattle.fkv_frames.specs.Open.{IsOpen}
use Rattle.fkv_plane.specs.declared.places.Places.{Places}
use Rattle.fkv_plane.specs.declared.places.RecordWord.{RecordWord}
use Rattle.fkv_plane.specs.Places.{frames_start, record_place, record_number}

-- no word of the plane is of two open records, or two words of one
abbrev pub AreOpenRecordsApart : Type 0
AreOpenRecordsApart = (shape : Shape) (places : Places) (limit a b : ℕ) (v w : RecordWord) → places.ring ≡ ring_of shape → IsOpen shape limit a → IsOpen shape limit b
    → record_place places a v ≡ record_place places b w → (a ≡ b) × (v ≡ w)

-- a record's words follow its place in the frames
abbrev pub AreRecordsInFrames : Type 0
AreRecordsInFrames = (shape : Shape) (places : Places) (addr : ℕ) (word : RecordWord) → places.ring ≡ ring_of shape
    → record_place places addr word ≡ frames_start places + place_of shape addr + record_number word
