-- What the records from the scan's start to the log's end have to be, and the faults where they aren't.
use Rattle.std.specs.Prelude.{◌≡◌, ◌≢◌, ◌⊎◌, ℕ, ◌+◌, ◌<◌, ◌≤◌, Some, slice_get, false}
use Rattle.fkv_base.specs.declared.faults.Fault.{Fault}
use Rattle.fkv_base.specs.declared.faults.Fault.TheVariants.{Damaged}
use Rattle.fkv_base.specs.declared.faults.Damage.TheVariants.{Record as of_record, Link as of_link}
use Rattle.fkv_record.specs.declared.records.Record.{Record}
use Rattle.fkv_record.specs.declared.triples.Triple.{Triple}
use Rattle.fkv_scan.specs.Log.{Log, record_home, triple_home, HasTriple, HasNoTriple}
use Rattle.fkv_scan.specs.Records.{Stands, next_of, version_of, losses_of, IsValid, IsKept}

-- some record at the address has P
abbrev pub Has : (ℕ → Record → Type 0) → ℕ → Type 0
Has P a = (x : Record) × P a x

-- no record from one address on and below another has P
abbrev pub HasNone : (ℕ → Record → Type 0) → ℕ → ℕ → Type 0
HasNone P from to = (b : ℕ) (y : Record) → from ≤ b → b < to → P b y → ⊥

-- the greatest address of those whose record has P
pub record IsGreatest (P : ℕ → Record → Type 0) (from to a : ℕ) : Type 0 where
  pub from_on : from ≤ a
  pub below : a < to
  pub here : Has P a
  pub none_above : HasNone P (a + 1) to

-- Where the chain of a home goes on below the scan's start, by the records below an address: at the address of the home's triple, if that lies below the
-- start; nowhere, if the home has no triple; and where each valid record of the home leads, if that lies below the start.
pub data GoesOn (log : Log) (its_home to : ℕ) (q : ℕ) : Type 0 where
  by_triple : HasTriple log its_home q → q < log.start → GoesOn log its_home to q
  by_none : HasNoTriple log its_home → q ≡ 0 → GoesOn log its_home to q
  by_record : (c : ℕ) (x : Record) → log.start ≤ c → c < to → IsValid log its_home c x → next_of log x ≡ q → q < log.start → GoesOn log its_home to q

-- A valid record that isn't lost leads to the nearest of its home that isn't lost either, whose version isn't above its own, and where there is none below
-- the start. A lost one leads to a valid record of its home, or below the start. All that lead below the start lead to where the chain of the home goes on.
pub record IsLinked (log : Log) (a : ℕ) (x : Record) : Type 0 where
  pub nearest : losses_of log a x ≡ 0 → (b : ℕ) → IsGreatest (IsKept log (record_home log.shape.bucket_bits x)) log.start a b
      → (next_of log x ≡ b) × ((y : Record) → Stands log b y → version_of log y ≤ version_of log x)
  pub first : losses_of log a x ≡ 0 → HasNone (IsKept log (record_home log.shape.bucket_bits x)) log.start a → next_of log x < log.start
  pub lost : losses_of log a x ≢ 0 → log.start ≤ next_of log x → Has (IsValid log (record_home log.shape.bucket_bits x)) (next_of log x)
  pub below : next_of log x < log.start → (q : ℕ) → GoesOn log (record_home log.shape.bucket_bits x) a q → next_of log x ≡ q

-- the bytes at an address spell a record that leads below it, of a version from the oldest one up to the next commit's
pub record IsFit (log : Log) (a : ℕ) (x : Record) : Type 0 where
  pub stands : Stands log a x
  pub new_enough : log.oldest ≤ version_of log x
  pub old_enough : version_of log x ≤ log.version + 1
  pub falls : next_of log x < a

-- a record of the scan is as it should be
pub record IsScanned (log : Log) (a : ℕ) : Type 0 where
  pub held : Record
  pub fits : IsFit log a held
  pub linked : (let x = held in x.header.invalid ≡ false) → IsLinked log a held

-- all records of the scan below an address are
abbrev pub IsScannedTo : Log → ℕ → Type 0
IsScannedTo log a = (c : ℕ) → log.start ≤ c → c < a → IsScanned log c

-- a triple that leads into the scan leads to a valid record of its home, which may be lost
abbrev pub IsLed : Log → Triple → Type 0
IsLed log triple = log.start ≤ triple.addr.0 → Has (IsValid log (triple_home triple)) triple.addr.0

-- the first so many triples are
abbrev pub AreLed : Log → ℕ → Type 0
AreLed log n = (i : ℕ) (triple : Triple) → i < n → slice_get log.triples i ≡ Some triple → IsLed log triple

-- the scan finds no fault
pub record HasScan (log : Log) : Type 0 where
  pub records : IsScannedTo log log.tail
  pub triples : (i : ℕ) (triple : Triple) → slice_get log.triples i ≡ Some triple → IsLed log triple

-- the first faulty address has bytes that no store wrote there
pub record IsRecordFault (log : Log) (a : ℕ) : Type 0 where
  pub from_start : log.start ≤ a
  pub in_log : a < log.tail
  pub before : IsScannedTo log a
  pub here : (x : Record) → IsFit log a x → ⊥

-- a valid record at an address is off its chain
pub record IsOff (log : Log) (a : ℕ) : Type 0 where
  pub held : Record
  pub fits : IsFit log a held
  pub valid : (let x = held in x.header.invalid ≡ false)
  pub here : IsLinked log a held → ⊥

-- the first faulty address has such a record
pub record IsRecordLinkFault (log : Log) (a : ℕ) : Type 0 where
  pub from_start : log.start ≤ a
  pub in_log : a < log.tail
  pub before : IsScannedTo log a
  pub here : IsOff log a

-- no record is faulty, and this is the address of the first triple that is
pub record IsTripleLinkFault (log : Log) (a : ℕ) : Type 0 where
  pub records : IsScannedTo log log.tail
  pub place : ℕ
  pub triple : Triple
  pub stands : slice_get log.triples place ≡ Some triple
  pub address : (let t = triple in t.addr.0 ≡ a)
  pub before : AreLed log place
  pub here : IsLed log triple → ⊥

-- a fault that the scan finds
abbrev pub IsScanFault : Log → Fault → Type 0
IsScanFault log (Damaged of_record a) = IsRecordFault log a
IsScanFault log (Damaged of_link a) = IsRecordLinkFault log a ⊎ IsTripleLinkFault log a
IsScanFault log other = ⊥
