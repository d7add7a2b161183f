-- The filled words as the index of a store that opens: where they stand, and that the index is in order then.
use Rattle.std.specs.Prelude.{◌≡◌, ℕ, zero, suc, ◌+◌, ◌*◌, ◌^◌, ◌<◌, ◌≤◌, List, [], ◌∷◌, length, All, Contains}
use Rattle.fkv_words.specs.Layout.{entry_word}
use Rattle.fkv_plane.specs.declared.places.Places.{Places}
use Rattle.fkv_plane.specs.Places.{bucket_place, frames_start}
use Rattle.fkv_plane.specs.Asked.{word_at}
use Rattle.fkv_index.specs.declared.homes.Home.{Home}
use Rattle.fkv_index.specs.Slots.{bucket_slots}
use Rattle.fkv_index.specs.Buckets as index
use Rattle.fkv_index.specs.IndexWorld.{taken_of, index_opening}
use Rattle.fkv_index.specs.OneEntry.{IsIndexAt}
use Rattle.fkv_index.specs.Entries.{entry_at}
use Rattle.fkv_entries.specs.Room.{needed, bucket_words, taken_below, HaveRoom}
use Rattle.fkv_filling.specs.Filled.{IsFilled}
use Rattle.fkv_entries.specs.declared.home_entries.HomeEntry.{HomeEntry}

-- the home of an entry
abbrev pub home : HomeEntry → Home
home x = record { bucket = x.bucket; tag = x.entry.tag }

-- so many numbers, upwards
unfoldable pub numbers_from : ℕ → ℕ → List ℕ
numbers_from first zero = []
numbers_from first (suc count) = first ∷ numbers_from (first + 1) count

-- the overflow buckets that follow each bucket: those that it needs, behind those of the buckets below it
abbrev pub opening_lists : List HomeEntry → ℕ → List ℕ
opening_lists entries bucket = numbers_from (taken_below entries bucket + 1) (needed (length (bucket_words bucket entries)))

-- words in which these stand at the places of the buckets, and so many overflow buckets are taken
pub record HaveIndex (p : Places) (words filled : List ℕ) (taken : ℕ) : Type 0 where
  pub enough : frames_start p ≤ length words
  pub its_words : (n : ℕ) → n < 8 * (p.buckets + p.overflow) → word_at words (bucket_place p 0 n) ≡ word_at filled n
  pub count : taken_of words ≡ taken

-- no entry of the list has this home
abbrev pub IsNoHome : List HomeEntry → Home → Type 0
IsNoHome entries its_home = All (λ x. home x ≡ its_home → ⊥) entries

-- The index is in order with any number of actors at rest, each home of the list has just the entry of the list and every other none, and an eighth word
-- is a link and nothing above it.
pub record IsOpeningIndex (p : Places) (entries : List HomeEntry) (words : List ℕ) : Type 0 where
  pub in_order : (actors : ℕ) → IsIndexAt (index_opening p words (opening_lists entries) actors)
  pub has_entries : (x : HomeEntry) → Contains entries x → entry_at p words (opening_lists entries) (home x) ≡ entry_word x.entry
  pub no_others : (its_home : Home) → its_home.bucket < p.buckets → IsNoHome entries its_home → entry_at p words (opening_lists entries) its_home ≡ 0
  pub no_latches : (m : ℕ) → m < p.buckets + p.overflow → index.bucket_words p words m bucket_slots < 2 ^ 48

-- What is filled from entries for which there is room is an index in order wherever it stands at the places of the buckets.
abbrev pub FilledIsInOrder : Type 0
FilledIsInOrder = (p : Places) (entries : List HomeEntry) (filled words : List ℕ) (taken : ℕ) → HaveRoom p.buckets p.overflow entries → IsFilled p.buckets p.overflow entries filled taken
    → HaveIndex p words filled taken → IsOpeningIndex p entries words

-- No more overflow buckets are taken than there are.
abbrev pub FilledHasRoom : Type 0
FilledHasRoom = (buckets overflow : ℕ) (entries : List HomeEntry) (filled : List ℕ) (taken : ℕ) → HaveRoom buckets overflow entries → IsFilled buckets overflow entries filled taken → taken ≤ overflow
