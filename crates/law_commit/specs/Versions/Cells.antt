-- The versions of the records in the log beside a life.
use Rattle.std.specs.Prelude.{◌≡◌, ◌<◌, ◌≤◌, ⊤, ℕ, List, [], ◌∷◌, Option, Some, None}
use Rattle.law_log.specs.Chains.{Logged, Unborn, Reserved, Published, Dropped}
use Rattle.law_log.specs.Ghosts.{GhostEvent, Log, Reserves}

-- the version of the record at an address, whether it is being made, stands or was given up; none where there is none
abbrev pub made_in : Logged → Option ℕ
made_in Unborn = None
made_in (Reserved entry cell) = Some cell.version
made_in (Published cell) = Some cell.version
made_in (Dropped cell) = Some cell.version

-- no record is of a later version than this
abbrev pub CellsUpto : ℕ → Log → Type 0
CellsUpto high log = (a version : ℕ) → made_in (log.cells a) ≡ Some version → version ≤ high

-- from an address on no record is of an earlier version than this
abbrev pub CellsFrom : ℕ → ℕ → Log → Type 0
CellsFrom bound low log = (a version : ℕ) → bound ≤ a → made_in (log.cells a) ≡ Some version → low ≤ version

-- below an address each record is of the version that it was of before, and none is new
abbrev pub KeepsVersions : ℕ → Log → Log → Type 0
KeepsVersions bound before after = (a : ℕ) → a < bound → made_in (after.cells a) ≡ made_in (before.cells a)

-- ---- an address is taken for a record of such a version
abbrev pub ReservesSo : (ℕ → Type 0) → GhostEvent → Type 0
ReservesSo P (Reserves a entry cell) = P cell.version
ReservesSo P event = ⊤

abbrev pub AllReserve : (ℕ → Type 0) → List GhostEvent → Type 0
AllReserve P [] = ⊤
AllReserve P (event ∷ before) = ReservesSo P event × AllReserve P before

-- of one from this version up to that one
abbrev pub IsFromUpto : ℕ → ℕ → ℕ → Type 0
IsFromUpto low high version = (low ≤ version) × (version ≤ high)

abbrev pub AllReserveFromUpto : ℕ → ℕ → List GhostEvent → Type 0
AllReserveFromUpto low high = AllReserve (IsFromUpto low high)

-- of just this version
abbrev pub AllReserveOf : ℕ → List GhostEvent → Type 0
AllReserveOf its = AllReserve (λ version. version ≡ its)
