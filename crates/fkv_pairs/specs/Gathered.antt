-- The values of keys, as they are gathered along the chains.
use Rattle.std.specs.Prelude.{◌≡◌, ◌≢◌, ℕ, ◌<◌, ◌≤◌, ◌↔◌, nat_lt, if◌then◌else◌, true, Option, Some, List, map, Contains, slice_get}
use Rattle.std.specs.List.Sorted.{IsStrictlyIncreasing}
use Rattle.std.specs.Option.{is_some}
use Rattle.std.specs.Ordering.{nat_cmp}
use Rattle.std.specs.BTreeMap.{BTreeMap, get}
use Rattle.fkv_base.specs.declared.numbers.Key.{Key}
use Rattle.fkv_base.specs.declared.numbers.Value.{Value}
use Rattle.fkv_base.specs.declared.shapes.Shape.{Shape}
use Rattle.fkv_record.specs.declared.records.Record.{Record}
use Rattle.fkv_scan.specs.Log.{Log, AreApart, AreBelow}
use Rattle.fkv_scan.specs.Scan.{HasScan}
use Rattle.fkv_chains.specs.Chains.{HasChains}
use Rattle.fkv_chains.specs.Entries.{Counts}
use Rattle.fkv_entries.specs.declared.home_entries.HomeEntry.{HomeEntry}
use Rattle.fkv_opening.specs.Entries.{entry_home}
use Rattle.fkv_pairs.specs.Pairs.{IsNewest, absent_word}

-- a log in which no stage finds a fault, whose triples are of distinct homes and lead below its end
pub record IsFaultless (log : Log) : Type 0 where
  pub some_start : 1 ≤ log.start
  pub apart : AreApart log.triples
  pub below : AreBelow log.tail log.triples
  pub scan : HasScan log
  pub chains : HasChains log

-- such a log, of this image, shape and begin
pub record IsReadFrom (image : List ℕ) (its_shape : Shape) (begin : ℕ) (log : Log) : Type 0 where
  pub bytes : log.image ≡ image
  pub sizes : log.shape ≡ its_shape
  pub begins : log.begin ≡ begin
  pub faultless : IsFaultless log

-- an address below a limit, or else 0
unfoldable pub lower_or_none : ℕ → ℕ → ℕ
lower_or_none a limit = if nat_lt a limit then a else 0

-- what a key has is the value of its newest record
pub record IsNewestValue (log : Log) (its_key its_value : ℕ) : Type 0 where
  pub addr : ℕ
  pub held : Record
  pub newest : IsNewest log (record { 0 = its_key }) addr held
  pub written : (let x = held in x.value ≡ its_value)

-- and so it is of each key that has something
abbrev pub AreNewest : Log → (ℕ → Option ℕ) → Type 0
AreNewest log at = (k x : ℕ) → at k ≡ Some x → IsNewestValue log k x

-- each key of a record that counts for a home has something
abbrev pub HasKeys : Log → ℕ → (ℕ → Option ℕ) → Type 0
HasKeys log its_home at = (b : ℕ) (y : Record) → Counts log its_home b y → is_some (at y.key.0) ≡ true

-- what one chain adds: all keys of its home, and none that had something loses it
pub record IsGathered (log : Log) (its_home : ℕ) (before after : ℕ → Option ℕ) : Type 0 where
  pub newest : AreNewest log after
  pub keeps : (k : ℕ) → is_some (before k) ≡ true → is_some (after k) ≡ true
  pub all : HasKeys log its_home after

-- what the chains of the first n entries have given
pub record AreGathered (log : Log) (at : ℕ → Option ℕ) (entries : List HomeEntry) (n : ℕ) : Type 0 where
  pub newest : AreNewest log at
  pub all : (j : ℕ) (e : HomeEntry) → j < n → slice_get entries j ≡ Some e → HasKeys log (entry_home e) at

-- the pairs are the keys of the map that have a value, in its order
pub record AreShown (values : BTreeMap ℕ ℕ) (pairs : List (Key × Value)) : Type 0 where
  pub ascending : IsStrictlyIncreasing (map (λ pair. pair.0.0) pairs)
  pub all : (pair : Key × Value) → Contains pairs pair ↔ ((get nat_cmp values pair.0.0 ≡ Some pair.1.0) × (pair.1.0 ≢ absent_word))
