-- The index that a store opens with: the buckets are filled upwards, each with its homes by tag, seven to a bucket, and overflow buckets are taken in
-- order by the buckets that need them.
use Rattle.std.specs.Prelude.{◌≡◌, ℕ, zero, suc, ◌+◌, ◌-◌, ◌*◌, ◌<◌, List, [], ◌∷◌, ◌++◌, length, take, drop, replicate, slice_index_or, nat_eq, nat_lt, map, if◌then◌else◌}
use Rattle.std.specs.List.Sorted.{IsPermutation, IsNonDecreasing, IsNonDecreasingBy}
use Rattle.std.specs.List.{take_while}
use Rattle.fkv_words.specs.Layout.{entry_word}
use Rattle.fkv_base.specs.Limits.{max_buckets, max_overflow}
use Rattle.fkv_entries.specs.Room.{needed, bucket_words}
use Rattle.fkv_entries.specs.declared.home_entries.HomeEntry.{HomeEntry}

-- the slots of all buckets that a store may have, seven each
abbrev pub all_slots : ℕ
all_slots = 7 * (max_buckets + max_overflow)

-- the entries, those of lower buckets first, and those of one bucket in their order
pub record AreByBucket (entries grouped : List HomeEntry) : Type 0 where
  pub same : (bucket : ℕ) → bucket_words bucket grouped ≡ bucket_words bucket entries
  pub many : length grouped ≡ length entries
  pub ascending : IsNonDecreasingBy (λ x. x.bucket) grouped

-- the words of the entries in a bucket, up to the first entry in another
abbrev pub first_words : ℕ → List HomeEntry → List ℕ
first_words bucket entries = map (λ x. entry_word x.entry) (take_while (λ x. nat_eq x.bucket bucket) entries)

-- The same words ascending. A tag counts for more than an address in a word, so these are the homes by tag.
pub record AreByTag (words sorted : List ℕ) : Type 0 where
  pub same : IsPermutation words sorted
  pub ascending : IsNonDecreasing sorted

-- the eight words of a bucket: seven slots, empty where there are fewer words, and the number of the overflow bucket that follows, or 0
abbrev pub eight_words : List ℕ → ℕ → List ℕ
eight_words words next = take 7 words ++ replicate (7 - length words) 0 ++ next ∷ []

-- Link j of the chain of a bucket with these words, where the buckets before it take so many overflow buckets. Link 0 is the bucket itself.
unfoldable pub link_words : List ℕ → ℕ → ℕ → List ℕ
link_words words taken j = eight_words (drop (7 * j) words) (if nat_lt j (needed (length words)) then taken + j + 1 else 0)

-- the bucket itself, and its overflow buckets
abbrev pub first_link : List ℕ → ℕ → List ℕ
first_link words taken = link_words words taken 0

unfoldable pub links_behind : List ℕ → ℕ → ℕ → List ℕ
links_behind words taken zero = []
links_behind words taken (suc n) = links_behind words taken n ++ link_words words taken (suc n)

abbrev pub other_links : List ℕ → ℕ → List ℕ
other_links words taken = links_behind words taken (needed (length words))

-- a part of each bucket's chain, bucket after bucket
unfoldable pub filled_by : (List ℕ → ℕ → List ℕ) → ℕ → List (List ℕ) → List ℕ
filled_by part taken [] = []
filled_by part taken (words ∷ chains) = part words taken ++ filled_by part (taken + needed (length words)) chains

-- how many overflow buckets they take
unfoldable pub all_needed : List (List ℕ) → ℕ
all_needed [] = 0
all_needed (words ∷ chains) = needed (length words) + all_needed chains

-- so many words, and zeros where there are fewer
abbrev pub up_to : ℕ → List ℕ → List ℕ
up_to n words = take n words ++ replicate (n - length words) 0

-- The words of all buckets and then of the overflow buckets, those that nobody needs empty, and how many are taken.
pub record IsFilled (buckets overflow : ℕ) (entries : List HomeEntry) (words : List ℕ) (taken : ℕ) : Type 0 where
  pub chains : List (List ℕ)
  pub many : length chains ≡ buckets
  pub each : (b : ℕ) → b < buckets → AreByTag (bucket_words b entries) (slice_index_or chains b [])
  pub filled : words ≡ filled_by first_link 0 chains ++ up_to (8 * overflow) (filled_by other_links 0 chains)
  pub all_taken : taken ≡ all_needed chains
