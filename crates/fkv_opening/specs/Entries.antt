-- The entries of a store.
use Rattle.std.specs.Prelude.{ℕ, ◌↔◌, List, map, Contains}
use Rattle.std.specs.List.Sorted.{IsStrictlyIncreasing}
use Rattle.fkv_scan.specs.Log.{Log, home}
use Rattle.fkv_chains.specs.Entries.{IsEntry}
use Rattle.fkv_entries.specs.declared.home_entries.HomeEntry.{HomeEntry}

-- the home of an entry
abbrev pub entry_home : HomeEntry → ℕ
entry_home x = home x.bucket x.entry.tag

-- the home of an entry, and the address that it leads to
abbrev pub place_of : HomeEntry → ℕ × ℕ
place_of x = (entry_home x, x.entry.addr.0)

-- These are the entries of a log: one of a home leads to an address just where that is the greatest of the home's records that are reached and count. They
-- stand in ascending order of the homes, and so each home once.
pub record AreEntries (log : Log) (entries : List HomeEntry) : Type 0 where
  pub all : (its_home a : ℕ) → Contains (map place_of entries) (its_home, a) ↔ IsEntry log its_home a
  pub ascending : IsStrictlyIncreasing (map entry_home entries)
