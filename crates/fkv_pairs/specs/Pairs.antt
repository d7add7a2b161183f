-- The pairs of a store: for each key the value of its newest record that counts.
use Rattle.std.specs.Prelude.{◌≡◌, ◌≢◌, ℕ, ◌≤◌, ◌↔◌, List, map, Contains}
use Rattle.std.specs.List.Sorted.{IsStrictlyIncreasing}
use Rattle.fkv_base.specs.declared.numbers.Key.{Key}
use Rattle.fkv_base.specs.declared.numbers.Value.{Value}
use Rattle.fkv_record.specs.declared.records.Record.{Record}
use Rattle.fkv_scan.specs.Log.{Log, record_home}
use Rattle.fkv_scan.specs.Scan.{Has}
use Rattle.fkv_chains.specs.Along.{IsAlong}
use Rattle.fkv_chains.specs.Entries.{Counts}
use Rattle.fkv_opening.specs.declared.opened_store.Opened.{Opened}
use Rattle.fkv_opening.specs.Faults.{log_of}
use Rattle.fkv_opening.specs.Opened.{IsStoreOf}

-- the log of the store that an image holds
abbrev pub log_of_store : (image : List ℕ) (opened : Opened) → IsStoreOf image opened → Log
log_of_store image opened store = log_of image store.newest store.triples

-- a record counts for the home of its key
abbrev pub CountsAtHome : Log → ℕ → Record → Type 0
CountsAtHome log a x = Counts log (record_home log.shape.bucket_bits x) a x

-- the newest record of a key: of those that count, the one at the greatest address
pub record IsNewest (log : Log) (its_key : Key) (a : ℕ) (x : Record) : Type 0 where
  pub counts : CountsAtHome log a x
  pub of_key : x.key ≡ its_key
  pub greatest : (b : ℕ) (y : Record) → CountsAtHome log b y → y.key ≡ its_key → b ≤ a

-- the word that a record holds where its key was deleted
abbrev pub absent_word : ℕ
absent_word = 18446744073709551615

-- The key has this value: its newest record holds it, and it isn't the word of a deleted key.
pub record HasValue (log : Log) (its_key : Key) (its_value : Value) : Type 0 where
  pub addr : ℕ
  pub held : Record
  pub newest : IsNewest log its_key addr held
  pub written : (let x = held in x.value ≡ its_value.0)
  pub present : its_value.0 ≢ absent_word

-- The pairs of a log, by ascending keys: each key that has a value, with it.
pub record ArePairs (log : Log) (pairs : List (Key × Value)) : Type 0 where
  pub ascending : IsStrictlyIncreasing (map (λ pair. pair.0.0) pairs)
  pub all : (pair : Key × Value) → Contains pairs pair ↔ HasValue log pair.0 pair.1

-- The chain that goes down from an address has the records that count for a home, all of them and no others, and addresses fall along it. So the newest
-- record of a key is the first of that key which the chain meets.
pub record IsChainOf (log : Log) (its_home from : ℕ) : Type 0 where
  pub all : (b : ℕ) → IsAlong log from b ↔ Has (Counts log its_home) b
  pub falls : (b c : ℕ) → IsAlong log from b → IsAlong log b c → c ≤ b
