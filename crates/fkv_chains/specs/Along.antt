-- Along a chain, from an address down.
use Rattle.std.specs.Prelude.{◌≡◌, ◌≢◌, ℕ, ◌<◌, false}
use Rattle.fkv_record.specs.declared.records.Record.{Record}
use Rattle.fkv_scan.specs.Log.{Log, record_home}
use Rattle.fkv_scan.specs.Records.{Stands, next_of}
use Rattle.fkv_chains.specs.Reached.{Reached, LeadsTo}
use Rattle.fkv_chains.specs.Chains.{IsOld}

-- an address is on the chain that goes down from another; nothing is on a chain from address 0
pub data IsAlong (log : Log) : ℕ → ℕ → Type 0 where
  here : (a : ℕ) → a ≢ 0 → IsAlong log a a
  on : (a b : ℕ) (x : Record) → a ≢ 0 → Stands log a x → IsAlong log (next_of log x) b → IsAlong log a b

-- the record there is an old and valid one of this home
pub record IsOf (log : Log) (its_home a : ℕ) : Type 0 where
  pub held : Record
  pub old : IsOld log a held
  pub valid : (let x = held in x.header.invalid ≡ false)
  pub same : record_home log.shape.bucket_bits held ≡ its_home

-- all records of the chain are
abbrev pub IsFollowed : Log → ℕ → ℕ → Type 0
IsFollowed log its_home from = (b : ℕ) → IsAlong log from b → IsOf log its_home b

-- a chain is to be followed from an address below the start, to which its home leads, or from nowhere
pub record IsToFollow (log : Log) (its_home from : ℕ) : Type 0 where
  pub below_start : from ≢ 0 → from < log.start
  pub reached : from ≢ 0 → Reached log from
  pub led : from ≢ 0 → LeadsTo log its_home from
