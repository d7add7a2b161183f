-- The room that entries need in an index whose buckets are filled upwards, each taking the next overflow buckets.
use Rattle.std.specs.Prelude.{◌≡◌, ℕ, zero, suc, ◌+◌, ◌-◌, ◌/◌, ◌<◌, ◌≤◌, List, length, map, nat_eq, All, AllPairs}
use Rattle.std.specs.List.{filter}
use Rattle.fkv_words.specs.Layout.{entry_word}
use Rattle.fkv_entries.specs.declared.home_entries.HomeEntry.{HomeEntry}

-- how many overflow buckets a bucket needs for that many homes: each bucket has seven slots
abbrev pub needed : ℕ → ℕ
needed homes = (homes + 6) / 7 - 1

-- the words of the entries in a bucket
abbrev pub bucket_words : ℕ → List HomeEntry → List ℕ
bucket_words bucket entries = map (λ x. entry_word x.entry) (filter (λ x. nat_eq x.bucket bucket) entries)

-- how many overflow buckets the buckets below this one take
unfoldable pub taken_below : List HomeEntry → ℕ → ℕ
taken_below entries zero = 0
taken_below entries (suc bucket) = taken_below entries bucket + needed (length (bucket_words bucket entries))

-- entries of different homes
abbrev pub AreApart : HomeEntry → HomeEntry → Type 0
AreApart x y = x.bucket ≡ y.bucket → x.entry.tag ≡ y.entry.tag → ⊥

-- each home once, and each in a bucket that there is
pub record AreHomes (buckets : ℕ) (entries : List HomeEntry) : Type 0 where
  pub once : AllPairs AreApart entries
  pub there : All (λ x. x.bucket < buckets) entries

-- an index of so many buckets and overflow buckets has a slot for each
pub record HaveRoom (buckets overflow : ℕ) (entries : List HomeEntry) : Type 0 where
  pub homes : AreHomes buckets entries
  pub enough : taken_below entries buckets ≤ overflow
