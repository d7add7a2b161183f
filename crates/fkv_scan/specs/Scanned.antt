-- What the scan tells of each home.
use Rattle.std.specs.Prelude.{◌≡◌, ◌⊎◌, ◌≢◌, ℕ, ◌<◌, ◌≤◌, Option, Some, None, Bool, true, false}
use Rattle.std.specs.Ordering.{nat_cmp}
use Rattle.std.specs.BTreeMap.{get}
use Rattle.fkv_base.specs.declared.numbers.Addr.{Addr}
use Rattle.fkv_record.specs.declared.records.Record.{Record}
use Rattle.fkv_scan.specs.declared.home_scans.HomeScan.{HomeScan}
use Rattle.fkv_scan.specs.declared.scans.Scanned.{Scanned}
use Rattle.fkv_scan.specs.Log.{Log, HasNoTriple}
use Rattle.fkv_scan.specs.Records.{IsValid, IsCounted, IsNewer}
use Rattle.fkv_scan.specs.Scan.{HasNone, Has, IsGreatest, GoesOn, HasScan}

-- the greatest address whose record has P, or none where there is none
abbrev pub IsGreatestOf : (ℕ → Record → Type 0) → ℕ → ℕ → Option Addr → Type 0
IsGreatestOf P from to None = HasNone P from to
IsGreatestOf P from to (Some a) = IsGreatest P from to a.0

-- the chain of a home goes on at this place below the start, and at no other
pub record GoesOnAt (log : Log) (its_home to a : ℕ) : Type 0 where
  pub there : GoesOn log its_home to a
  pub alone : (q : ℕ) → GoesOn log its_home to q → q ≡ a

-- The newest record of a home that counts, of those that the scan meets, and where the chain of the home goes on below the scan's start.
pub record IsHomeScan (log : Log) (its_home : ℕ) (s : HomeScan) : Type 0 where
  pub newest : IsGreatestOf (IsCounted log its_home) log.start log.tail s.newest
  pub way : Addr
  pub known : s.below ≡ Some way
  pub below : (let a = way in GoesOnAt log its_home log.tail a.0)

-- the scan meets nothing of a home, and no triple leads to it
pub record IsUnmet (log : Log) (its_home to : ℕ) : Type 0 where
  pub triples : HasNoTriple log its_home
  pub records : HasNone (IsValid log its_home) log.start to

-- whether some record below an address is newer than the commit
abbrev pub TellsNewer : Log → ℕ → Bool → Type 0
TellsNewer log to true = (c : ℕ) × (log.start ≤ c) × (c < to) × Has (IsNewer log) c
TellsNewer log to false = HasNone (IsNewer log) log.start to

-- The scan finds no fault; each home that it or a triple meets is told of, and no other; and it is told whether a record is newer than the commit.
pub record AreScanned (log : Log) (scanned : Scanned) : Type 0 where
  pub sound : HasScan log
  pub each : (its_home : ℕ) (s : HomeScan) → get nat_cmp scanned.homes its_home ≡ Some s → IsHomeScan log its_home s
  pub others : (its_home : ℕ) → get nat_cmp scanned.homes its_home ≡ None → IsUnmet log its_home log.tail
  pub newer : TellsNewer log log.tail scanned.newer

-- The entry of a home once all records are scanned: the newest that counts, or else the place below the start where the chain goes on, and none where it
-- doesn't go on.
abbrev pub IsEntryOf : Log → ℕ → Option Addr → Type 0
IsEntryOf log its_home None = HasNone (IsCounted log its_home) log.start log.tail × GoesOnAt log its_home log.tail 0
IsEntryOf log its_home (Some a) =
    IsGreatest (IsCounted log its_home) log.start log.tail a.0 ⊎ (HasNone (IsCounted log its_home) log.start log.tail × GoesOnAt log its_home log.tail a.0 × (a.0 ≢ 0))
