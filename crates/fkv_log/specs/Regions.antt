-- The regions of the log, for a session that goes by the head and the read-only offset that it has seen.
use Rattle.std.specs.Prelude.{ℕ, ◌<◌, ◌≤◌, nat_lt, nat_le, if◌then◌else◌, Option, Some, None}
use Rattle.fkv_log.specs.declared.regions.Region.{Region}
use Rattle.fkv_log.specs.declared.regions.Region.TheVariants.{Disk, ReadOnly, Fuzzy, Mutable}
use Rattle.fkv_log.specs.declared.regions.SeenOffsets.{SeenOffsets}

-- below the seen head is the device, at or above the seen read-only offset may be changed, and between them the safe
-- read-only offset parts what nobody changes from what somebody may
abbrev pub LiesIn : Region → ℕ → SeenOffsets → ℕ → Type 0
LiesIn Disk addr seen safe = addr < seen.head.0
LiesIn Mutable addr seen safe = (seen.head.0 ≤ addr) × (seen.read_only.0 ≤ addr)
LiesIn Fuzzy addr seen safe = (seen.head.0 ≤ addr) × (addr < seen.read_only.0) × (safe ≤ addr)
LiesIn ReadOnly addr seen safe = (seen.head.0 ≤ addr) × (addr < seen.read_only.0) × (addr < safe)

-- the same as a function
abbrev pub unseen_region_of : ℕ → ℕ → Region
unseen_region_of addr safe = if nat_le safe addr then Fuzzy else ReadOnly

abbrev pub region_of : ℕ → SeenOffsets → ℕ → Region
region_of addr seen safe = if nat_lt addr seen.head.0 then Disk else if nat_le seen.read_only.0 addr then Mutable else unseen_region_of addr safe

-- what the seen offsets tell of it
abbrev pub seen_region_of : ℕ → SeenOffsets → Option Region
seen_region_of addr seen = if nat_lt addr seen.head.0 then Some Disk else if nat_le seen.read_only.0 addr then Some Mutable else None
