-- How full the buckets of an opened store's index are.
use Rattle.std.specs.Prelude.{◌≡◌, ℕ, ◌+◌, ◌^◌, ◌<◌, max, List, length, slice_index, nat_eq, count_by}
use Rattle.std.specs.List.{fold}
use Rattle.fkv_entries.specs.declared.home_entries.HomeEntry.{HomeEntry}
use Rattle.fkv_opening.specs.declared.opened_store.Opened.{Opened}
use Rattle.fkv_looking.specs.declared.index_looks.IndexLook.{IndexLook}

-- for each number below a limit: how many of the items have it
pub record IsTally {X : Type 0} (number_of : X → ℕ) (limit : ℕ) (items : List X) (counts : List ℕ) : Type 0 where
  pub many : length counts ≡ limit
  pub each : (n : ℕ) → n < limit → slice_index counts n ≡ count_by (λ x. nat_eq (number_of x) n) items

abbrev pub bucket_of : HomeEntry → ℕ
bucket_of x = x.bucket

abbrev pub itself : ℕ → ℕ
itself n = n

-- the greatest of some numbers; 0 of none
abbrev pub greatest : List ℕ → ℕ
greatest numbers = fold max 0 numbers

-- how many entries each bucket has, and how many buckets have each number of entries, up to the most that one has
pub record IsIndexLook (opened : Opened) (look : IndexLook) : Type 0 where
  pub entries : IsTally bucket_of (2 ^ opened.shape.bucket_bits) opened.entries.items look.entries.items
  pub buckets : IsTally itself (greatest look.entries.items + 1) look.entries.items look.buckets.items
