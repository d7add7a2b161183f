-- What the phase word says.
use Rattle.std.specs.Prelude.{ℕ, ◌+◌, ◌*◌, ◌/◌, ◌%◌, ◌^◌, ◌==◌, nat_le, ◌&&◌, if◌then◌else◌, Bool, Option, Some, None}
use Rattle.fkv_base.specs.Limits.{last_version}
use Rattle.fkv_base.specs.declared.phases.Phase.{Phase}
use Rattle.fkv_base.specs.declared.phases.Phase.TheVariants as phase
use Rattle.fkv_words.specs.declared.phase_words.PhaseSaid.{PhaseSaid}
use Rattle.fkv_words.specs.declared.phase_words.PhaseSaid.TheVariants.{Says, Spoiled}

-- the phase of a number
abbrev pub phase_numbered : ℕ → Option Phase
phase_numbered number =
    if number == 0 then Some phase.Rest else if number == 1 then Some phase.Prepare else if number == 2 then Some phase.InProgress
    else if number == 3 then Some phase.WaitPending else if number == 4 then Some phase.WaitFlush else None

-- the version that a word's fields spell: its low thirteen bits are the word's, and what is above them stands from bit 19 on
abbrev pub version_in : ℕ → ℕ
version_in word = word % 2 ^ 13 + word / 2 ^ 19 * 2 ^ 13

-- the number of the phase is in the three bits from bit 16 on, and those between it and the version's low ones are 0
abbrev pub has_spare_bits : ℕ → Bool
has_spare_bits word = word / 2 ^ 13 % 2 ^ 3 == 0

-- there are the versions from 1 to the last
abbrev pub is_version : ℕ → Bool
is_version version = nat_le 1 version && nat_le version last_version

abbrev pub phase_with : Option Phase → ℕ → PhaseSaid
phase_with None version = Spoiled
phase_with (Some its) version = if is_version version then Says its (record { 0 = version }) else Spoiled

unfoldable pub phase_said : ℕ → PhaseSaid
phase_said word = if has_spare_bits word then phase_with (phase_numbered (word / 2 ^ 16 % 2 ^ 3)) (version_in word) else Spoiled
