-- The layout of each word: its fields, each at its power of two.
use Rattle.std.specs.Prelude.{◌≡◌, ℕ, ◌+◌, ◌-◌, ◌*◌, ◌/◌, ◌%◌, ◌^◌}
use Rattle.fkv_words.specs.declared.entries.Entry.{Entry}
use Rattle.fkv_words.specs.declared.bucket_tail.BucketTail.{BucketTail}
use Rattle.fkv_words.specs.declared.headers.Header.{Header}
use Rattle.fkv_words.specs.declared.phase_word.PhaseWord.{PhaseWord}
use Rattle.fkv_words.specs.declared.wide_phase.WidePhase.{WidePhase}
use Rattle.fkv_words.specs.declared.cut_word.CutWord.{CutWord}
use Rattle.fkv_words.specs.Fields.{bit_of}
use Rattle.fkv_words.specs.Phases.{phase_number}

-- the address, and the tag from bit 48 on
abbrev pub entry_word : Entry → ℕ
entry_word x = x.addr.0 + x.tag * 2 ^ 48

-- the overflow bucket, how many share the latch from bit 48 on, and bit 63 where it is held alone
abbrev pub tail_word : BucketTail → ℕ
tail_word x = x.overflow + x.shared * 2 ^ 48 + bit_of x.exclusive * 2 ^ 63

-- the previous address, the version from bit 48 on, and bit 62 of an invalid record
abbrev pub header_word : Header → ℕ
header_word x = x.previous.0 + x.version.0 * 2 ^ 48 + bit_of x.invalid * 2 ^ 62

-- the version, and the phase from bit 16 on
abbrev pub phase_word : PhaseWord → ℕ
phase_word x = x.version.0 + phase_number x.phase * 2 ^ 16

-- the last version that a wide phase word has room for
abbrev pub max_version : ℕ
max_version = 2 ^ 45 - 1

-- the low thirteen bits of a version, the number of a phase from bit 16 on, and the rest of the version from bit 19 on
abbrev pub phase_spelled : ℕ → ℕ → ℕ
phase_spelled version number = version % 2 ^ 13 + number * 2 ^ 16 + version / 2 ^ 13 * 2 ^ 19

abbrev pub wide_word : WidePhase → ℕ
wide_word x = phase_spelled x.version.0 (phase_number x.phase)

-- What the narrow word can say, the wide one says by the same word.
abbrev pub PhasesAgree : Type 0
PhasesAgree = (x : PhaseWord) (y : WidePhase) → x.version ≡ y.version → x.phase ≡ y.phase → phase_word x ≡ wide_word y

-- the serial, and the version from bit 48 on
abbrev pub cut_word : CutWord → ℕ
cut_word x = x.serial.0 + x.version.0 * 2 ^ 48
