-- What the word of a record's header says.
use Rattle.std.specs.Prelude.{ℕ, ◌/◌, ◌%◌, ◌^◌, ◌==◌, ◌&&◌, not, if◌then◌else◌, Bool}
use Rattle.fkv_ops.specs.declared.header_words.HeaderSaid.{HeaderSaid}
use Rattle.fkv_ops.specs.declared.header_words.HeaderSaid.TheVariants.{Says, Spoiled}

-- the address of the previous record is in the low 48 bits, and the version in the thirteen above them
abbrev pub previous_in : ℕ → ℕ
previous_in word = word % 2 ^ 48

abbrev pub version_in : ℕ → ℕ
version_in word = word / 2 ^ 48 % 2 ^ 13

-- a header has a version, and bits 61 and 63 are 0
abbrev pub is_header : ℕ → Bool
is_header word = not (version_in word == 0) && word / 2 ^ 61 % 2 == 0 && word / 2 ^ 63 == 0

unfoldable pub header_said : ℕ → HeaderSaid
header_said word = if is_header word then Says (record { 0 = previous_in word }) (record { 0 = version_in word }) else Spoiled
