-- A part of the scan: the records from one address on and below another.
use Rattle.std.specs.Prelude.{◌≡◌, ◌≢◌, ℕ, ◌+◌, ◌<◌, ◌≤◌, List, [], ◌∷◌, slice_get, Option, Some, Bool, true, false, ⊤}
use Rattle.std.specs.List.{All}
use Rattle.fkv_base.specs.declared.faults.Fault.{Fault}
use Rattle.fkv_base.specs.declared.faults.Fault.TheVariants.{Damaged, Device, Memory}
use Rattle.fkv_base.specs.declared.faults.Damage.TheVariants as damage
use Rattle.fkv_disk.specs.Device.{Rose}
use Rattle.fkv_record.specs.declared.records.Record.{Record}
use Rattle.fkv_scan.specs.declared.gathering.Found.{Found}
use Rattle.fkv_scan.specs.declared.gathering.Found.TheVariants.{Unfit, GivenUp, Valid}
use Rattle.fkv_scan.specs.declared.gathering.Gathered.{Gathered}
use Rattle.fkv_scan.specs.declared.home_scans.HomeScan.{HomeScan}
use Rattle.fkv_scan.specs.declared.met_records.MetRecord.{MetRecord}
use Rattle.fkv_scan.specs.Log.{Log, record_home}
use Rattle.fkv_scan.specs.Records.{Stands, next_of, version_of, IsNewer}
use Rattle.fkv_scan.specs.Scan.{Has, HasNone, IsFit, IsOff, IsScanned}
use Rattle.fkv_scan.specs.Known.{KnowsOf, KnowsAll}

-- what is kept of a valid record of the scan is that record's
pub record Tells (log : Log) (m : MetRecord) : Type 0 where
  pub held : Record
  pub from_start : log.start ≤ m.addr.0
  pub fits : IsFit log m.addr.0 held
  pub alone : (y : Record) → Stands log m.addr.0 y → y ≡ held
  pub valid : (let x = held in x.header.invalid ≡ false)
  pub home : m.home ≡ record_home log.shape.bucket_bits held
  pub previous : m.previous.0 ≡ next_of log held
  pub version : m.version.0 ≡ version_of log held

-- a record that was given up stands at the address
pub record IsGivenUp (log : Log) (a : ℕ) : Type 0 where
  pub held : Record
  pub fits : IsFit log a held
  pub alone : (y : Record) → Stands log a y → y ≡ held
  pub invalid : (let x = held in x.header.invalid ≡ true)

-- what is found at an address
abbrev pub IsFound : Log → ℕ → Found → Type 0
IsFound log a Unfit = (x : Record) → IsFit log a x → ⊥
IsFound log a GivenUp = IsGivenUp log a
IsFound log a (Valid m) = (m.addr.0 ≡ a) × Tells log m

-- a record of this address is in the list
pub record HasMet (mets : List MetRecord) (a : ℕ) : Type 0 where
  pub place : ℕ
  pub met : MetRecord
  pub stands : slice_get mets place ≡ Some met
  pub address : (let m = met in m.addr.0 ≡ a)

-- these are the valid records of the part, and each address of it has a record that a store wrote there
pub record AreMet (log : Log) (from to : ℕ) (mets : List MetRecord) : Type 0 where
  pub upwards : from ≤ to
  pub each : (i : ℕ) (m : MetRecord) → slice_get mets i ≡ Some m → Tells log m × (from ≤ m.addr.0) × (m.addr.0 < to)
  pub all : (c : ℕ) (x : Record) → from ≤ c → c < to → Stands log c x → x.header.invalid ≡ false → HasMet mets c
  pub fit : (c : ℕ) → from ≤ c → c < to → (x : Record) × IsFit log c x

-- they are in the order of their addresses
abbrev pub Rise : List MetRecord → Type 0
Rise [] = ⊤
Rise (m ∷ ms) = All (λ n. m.addr.0 < n.addr.0) ms × Rise ms

-- those of each home are
abbrev pub RiseByHome : List MetRecord → Type 0
RiseByHome mets = (i j : ℕ) (m n : MetRecord) → slice_get mets i ≡ Some m → slice_get mets j ≡ Some n → i < j → m.home ≡ n.home → m.addr.0 < n.addr.0

-- all records of the part are as they should be
abbrev pub AreScannedIn : Log → ℕ → ℕ → Type 0
AreScannedIn log from to = (c : ℕ) → from ≤ c → c < to → IsScanned log c

-- whether some record of the part is newer than the commit
abbrev pub TellsNewerIn : Log → ℕ → ℕ → Bool → Type 0
TellsNewerIn log from to true = (c : ℕ) × (from ≤ c) × (c < to) × Has (IsNewer log) c
TellsNewerIn log from to false = HasNone (IsNewer log) from to

-- the part was read up to the first address that has no record which a store wrote there
pub record IsGathered (log : Log) (from to : ℕ) (g : Gathered) : Type 0 where
  pub at_most : g.end.0 ≤ to
  pub unfit : g.end.0 < to → (x : Record) → IsFit log g.end.0 x → ⊥
  pub mets : AreMet log from g.end.0 g.mets.items
  pub rise : Rise g.mets.items
  pub newer : TellsNewerIn log from g.end.0 g.newer

-- A record is taken in where it is on the chain of its home: more is known of that home then. Of each other home the same is known as before.
abbrev pub IsTakenIn : Log → MetRecord → (ℕ → Option HomeScan) → (ℕ → Option HomeScan) → Bool → Type 0
IsTakenIn log m at next true = IsScanned log m.addr.0 × KnowsOf log m.home (m.addr.0 + 1) (next m.home) × ((q : ℕ) → m.home ≢ q → next q ≡ at q)
IsTakenIn log m at next false = IsOff log m.addr.0 × ((q : ℕ) → m.home ≢ q → next q ≡ at q)

-- the records of the part are on their chains up to this address, and that of this address isn't if it is one of the part
pub record AreLinked (log : Log) (from to linked : ℕ) (at : ℕ → Option HomeScan) : Type 0 where
  pub at_most : linked ≤ to
  pub scanned : AreScannedIn log from linked
  pub off : linked < to → (from ≤ linked) × IsOff log linked
  pub known : linked ≡ to → KnowsAll log to at

-- why a part is refused: the first faulty address of an honest device's image, a failure of the device in this call, or want of memory
abbrev pub IsPartRefused : ℕ → ℕ → Type 0 → Log → ℕ → ℕ → Fault → Type 0
IsPartRefused before now premise log from to (Damaged damage.Record a) = premise → (from ≤ a) × (a < to) × AreScannedIn log from a × ((x : Record) → IsFit log a x → ⊥)
IsPartRefused before now premise log from to (Damaged damage.Link a) = premise → (from ≤ a) × (a < to) × AreScannedIn log from a × IsOff log a
IsPartRefused before now premise log from to Device = Rose before now
IsPartRefused before now premise log from to Memory = Unit {0}
IsPartRefused before now premise log from to other = ⊥
