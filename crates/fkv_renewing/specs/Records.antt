-- The records of a renewed log: one for each pair, in the pairs' order, from address 1 on.
use Rattle.std.specs.Prelude.{◌≡◌, ◌≢◌, ℕ, ◌-◌, ◌<◌, ◌≤◌, false, List, length, Option, Some, slice_get, unwrap_or}
use Rattle.std.specs.List.{flat_map}
use Rattle.fkv_base.specs.declared.numbers.Key.{Key}
use Rattle.fkv_base.specs.declared.numbers.Value.{Value}
use Rattle.fkv_words.specs.Home.{bucket_of, tag_of}
use Rattle.fkv_record.specs.declared.records.Record.{Record}
use Rattle.fkv_record.specs.Layout.{record_bytes}
use Rattle.fkv_scan.specs.Log.{home}

-- the home of a key in an index of 2^bits buckets
abbrev pub key_home : ℕ → Key → ℕ
key_home bits its_key = home (bucket_of its_key bits) (tag_of its_key bits)

-- The last address of a home among those of the first n pairs, or 0 where none of them has the home. The pair with index i has the address i + 1.
pub record IsLastOf (bits : ℕ) (pairs : List (Key × Value)) (n its_home a : ℕ) : Type 0 where
  pub among : a ≤ n
  pub here : a ≢ 0 → (pair : Key × Value) × (slice_get pairs (a - 1) ≡ Some pair) × (key_home bits pair.0 ≡ its_home)
  pub none_above : (i : ℕ) (pair : Key × Value) → a ≤ i → i < n → slice_get pairs i ≡ Some pair → key_home bits pair.0 ≢ its_home

-- A record holds the pair with index i: a valid one of version 1, which leads to the last address of its home below its own.
pub record IsRecordOf (bits : ℕ) (pairs : List (Key × Value)) (i : ℕ) (pair : Key × Value) (x : Record) : Type 0 where
  pub key : x.key ≡ pair.0
  pub value : (let p = pair in x.value ≡ p.1.0)
  pub version : x.header.version.0 ≡ 1
  pub valid : x.header.invalid ≡ false
  pub leads : IsLastOf bits pairs i (key_home bits pair.0) x.header.previous.0

-- the records of these pairs, one for each
pub record AreRecords (bits : ℕ) (pairs : List (Key × Value)) (records : List Record) : Type 0 where
  pub many : length records ≡ length pairs
  pub each : (i : ℕ) (pair : Key × Value) (x : Record) → slice_get pairs i ≡ Some pair → slice_get records i ≡ Some x → IsRecordOf bits pairs i pair x

-- the bytes of the log of these pairs
abbrev pub HasBytes : ℕ → List (Key × Value) → List ℕ → Type 0
HasBytes bits pairs bytes = (records : List Record) × AreRecords bits pairs records × (bytes ≡ flat_map record_bytes records)

-- What is known of each home after the first n pairs: the last of its addresses, or nothing where none of them has the home.
pub record AreLatest (bits : ℕ) (pairs : List (Key × Value)) (n : ℕ) (at : ℕ → Option ℕ) : Type 0 where
  pub last : (its_home : ℕ) → IsLastOf bits pairs n its_home (unwrap_or (at its_home) 0)
  pub some : (its_home a : ℕ) → at its_home ≡ Some a → a ≢ 0
