-- What is known of the homes in the middle of the scan, when the records below an address were met.
use Rattle.std.specs.Prelude.{◌≡◌, ℕ, Option, Some, None}
use Rattle.fkv_base.specs.declared.numbers.Addr.{Addr}
use Rattle.fkv_record.specs.declared.records.Record.{Record}
use Rattle.fkv_scan.specs.declared.home_scans.HomeScan.{HomeScan}
use Rattle.fkv_scan.specs.Log.{Log}
use Rattle.fkv_scan.specs.Records.{Stands, version_of, IsValid, IsKept, IsCounted}
use Rattle.fkv_scan.specs.Scan.{HasNone, GoesOn}
use Rattle.fkv_scan.specs.Scanned.{IsGreatestOf, GoesOnAt, IsUnmet}

-- where the chain of a home goes on below the start, or that nothing leads there yet and no record of the home was met
abbrev pub IsWay : Log → ℕ → ℕ → Option Addr → Type 0
IsWay log its_home to (Some a) = GoesOnAt log its_home to a.0
IsWay log its_home to None = ((q : ℕ) → GoesOn log its_home to q → ⊥) × HasNone (IsValid log its_home) log.start to

-- what is known of one home
pub record Knows (log : Log) (its_home to : ℕ) (s : HomeScan) : Type 0 where
  pub newest : IsGreatestOf (IsCounted log its_home) log.start to s.newest
  pub last : IsGreatestOf (IsKept log its_home) log.start to s.last
  pub version : (b : Addr) (y : Record) → s.last ≡ Some b → Stands log b.0 y → version_of log y ≡ s.last_version.0
  pub below : IsWay log its_home to s.below

-- what is known of a home that may not be met yet
abbrev pub KnowsOf : Log → ℕ → ℕ → Option HomeScan → Type 0
KnowsOf log its_home to (Some s) = Knows log its_home to s
KnowsOf log its_home to None = IsUnmet log its_home to

-- what is known of all homes
abbrev pub KnowsAll : Log → ℕ → (ℕ → Option HomeScan) → Type 0
KnowsAll log to at = (its_home : ℕ) → KnowsOf log its_home to (at its_home)
