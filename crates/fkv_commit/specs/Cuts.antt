-- What a cut word says, and which of a session's two it is.
use Rattle.std.specs.Prelude.{ℕ, ◌/◌, ◌%◌, ◌^◌, ◌==◌, if◌then◌else◌, Bool}
use Rattle.fkv_marks.specs.Marks.{mark}
use Rattle.fkv_plane.specs.declared.places.SessionWord.{SessionWord}
use Rattle.fkv_plane.specs.declared.places.SessionWord.TheVariants as own

-- the serial is in the low 48 bits, the version in the thirteen above, and all others are 0
abbrev pub is_cut : ℕ → Bool
is_cut word = word / 2 ^ 61 == 0

-- Of its version a word says the mark. A word that is none says serial 0 of version 0.
unfoldable pub serial_said : ℕ → ℕ
serial_said word = if is_cut word then word % 2 ^ 48 else 0

unfoldable pub version_said : ℕ → ℕ
version_said word = if is_cut word then word / 2 ^ 48 else 0

-- the word says that it is of a version with this one's mark
abbrev pub is_cut_of : ℕ → ℕ → Bool
is_cut_of version word = version_said word == mark version

-- the cut word of even versions, or of odd ones
abbrev pub cut_of : ℕ → SessionWord
cut_of version = if version % 2 == 0 then own.EvenCut else own.OddCut

-- the one of the versions before and after
abbrev pub other_cut_of : ℕ → SessionWord
other_cut_of version = if version % 2 == 0 then own.OddCut else own.EvenCut
