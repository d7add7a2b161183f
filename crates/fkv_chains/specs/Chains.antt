-- What the records below the scan's start have to be that are reached, and the faults where they aren't.
use Rattle.std.specs.Prelude.{◌≡◌, ◌≢◌, ◌⊎◌, ℕ, ◌<◌, ◌≤◌, true, false}
use Rattle.fkv_base.specs.declared.faults.Fault.{Fault}
use Rattle.fkv_base.specs.declared.faults.Fault.TheVariants.{Damaged}
use Rattle.fkv_base.specs.declared.faults.Damage.TheVariants.{Record as of_record, Link as of_link}
use Rattle.fkv_record.specs.declared.records.Record.{Record}
use Rattle.fkv_scan.specs.Log.{Log, record_home}
use Rattle.fkv_scan.specs.Records.{Stands, next_of}
use Rattle.fkv_chains.specs.Reached.{Reached, LeadsTo}

-- The bytes at an address spell a record that leads below it, whose mark is at most the commit's number. Up to commit 8190 that is its version. From commit 8191
-- on each mark is, so no version is asked for there.
pub record IsOld (log : Log) (a : ℕ) (x : Record) : Type 0 where
  pub stands : Stands log a x
  pub old_enough : x.header.version.0 ≤ log.version
  pub falls : next_of log x < a

-- they spell such a record, a valid one, of each home that leads there
pub record IsChained (log : Log) (a : ℕ) : Type 0 where
  pub held : Record
  pub old : IsOld log a held
  pub valid : (let x = held in x.header.invalid ≡ false)
  pub same : (leading : ℕ) → LeadsTo log leading a → record_home log.shape.bucket_bits held ≡ leading

-- so it is wherever an address below the start is reached
abbrev pub HasChains : Log → Type 0
HasChains log = (a : ℕ) → Reached log a → a < log.start → IsChained log a

-- an address that is reached has bytes that no store wrote there
pub record IsChainRecordFault (log : Log) (a : ℕ) : Type 0 where
  pub reached : Reached log a
  pub below_start : a < log.start
  pub here : (x : Record) → IsOld log a x → ⊥

-- it has an invalid record, or one of another home than one that leads there
pub record IsChainLinkFault (log : Log) (a : ℕ) : Type 0 where
  pub reached : Reached log a
  pub below_start : a < log.start
  pub held : Record
  pub stands : Stands log a held
  pub here : (let x = held in x.header.invalid ≡ true) ⊎ ((leading : ℕ) × LeadsTo log leading a × (record_home log.shape.bucket_bits held ≢ leading))

-- A fault of the chains. Where there are several, any one of them may be named.
abbrev pub IsChainFault : Log → Fault → Type 0
IsChainFault log (Damaged of_record a) = IsChainRecordFault log a
IsChainFault log (Damaged of_link a) = IsChainLinkFault log a
IsChainFault log other = ⊥
