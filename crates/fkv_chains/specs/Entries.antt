-- The entries of a store.
use Rattle.std.specs.Prelude.{◌≡◌, ℕ, ◌≤◌, Option, Some, None}
use Rattle.fkv_base.specs.declared.numbers.Addr.{Addr}
use Rattle.fkv_record.specs.declared.records.Record.{Record}
use Rattle.fkv_scan.specs.Log.{Log}
use Rattle.fkv_scan.specs.Records.{version_of, losses_of, IsValid}
use Rattle.fkv_scan.specs.Scan.{Has}
use Rattle.fkv_chains.specs.Reached.{Reached}

-- A record counts for a home: it is reached, valid and of this home, its mark is at most the commit's number, and so is its version if the scan meets it, and it
-- isn't lost. Below the scan's start no record is lost, and from commit 8191 on each mark is at most the number: all that is reached there counts.
pub record Counts (log : Log) (its_home a : ℕ) (x : Record) : Type 0 where
  pub reached : Reached log a
  pub valid : IsValid log its_home a x
  pub old_enough : x.header.version.0 ≤ log.version
  pub version : log.start ≤ a → version_of log x ≤ log.version
  pub not_lost : log.start ≤ a → losses_of log a x ≡ 0

-- the entry of a home is at the greatest address of those
pub record IsEntry (log : Log) (its_home a : ℕ) : Type 0 where
  pub counts : Has (Counts log its_home) a
  pub greatest : (b : ℕ) (y : Record) → Counts log its_home b y → b ≤ a

-- a home has this entry, or none
abbrev pub HasEntry : Log → ℕ → Option Addr → Type 0
HasEntry log its_home None = (a : ℕ) → IsEntry log its_home a → ⊥
HasEntry log its_home (Some a) = IsEntry log its_home a.0
