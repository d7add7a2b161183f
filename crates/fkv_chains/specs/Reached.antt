-- Which records of a log are reached, and which homes lead to them.
use Rattle.std.specs.Prelude.{◌≡◌, ◌≢◌, ℕ, ◌<◌, ◌≤◌, false}
use Rattle.fkv_record.specs.declared.records.Record.{Record}
use Rattle.fkv_scan.specs.Log.{Log, HasTriple, record_home}
use Rattle.fkv_scan.specs.Records.{Stands, next_of}

-- The addresses that are reached, the least set closed under three rules: each of the scan whose record isn't invalid, each that a triple has, and the
-- address to which each record leads that is reached, if not 0. A lost record leads on too.
pub data Reached (log : Log) : ℕ → Type 0 where
  in_scan : (a : ℕ) (x : Record) → log.start ≤ a → a < log.tail → Stands log a x → x.header.invalid ≡ false → Reached log a
  led_to : (its_home a : ℕ) → HasTriple log its_home a → Reached log a
  linked : (a b : ℕ) (x : Record) → Reached log a → Stands log a x → next_of log x ≡ b → b ≢ 0 → Reached log b

-- a home leads to an address: by its triple, or by a record of the home that is reached
pub data LeadsTo (log : Log) (its_home a : ℕ) : Type 0 where
  from_triple : HasTriple log its_home a → LeadsTo log its_home a
  from_record : (b : ℕ) (x : Record) → Reached log b → Stands log b x → record_home log.shape.bucket_bits x ≡ its_home → next_of log x ≡ a → a ≢ 0 → LeadsTo log its_home a
