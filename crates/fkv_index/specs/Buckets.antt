-- The words of the buckets, and the overflow buckets that follow a bucket.
use Rattle.std.specs.Prelude.{◌≡◌, ℕ, ◌+◌, ◌-◌, ◌<◌, ◌≤◌, ◌⊎◌, List, [], ◌∷◌, ⊤}
use Rattle.fkv_plane.specs.declared.places.Places.{Places}
use Rattle.fkv_plane.specs.Places.{bucket_place}
use Rattle.fkv_plane.specs.Asked.{word_at}
use Rattle.fkv_index.specs.Slots.{bucket_slots, entry_tag, link_of}

-- the words of all buckets, by the bucket's number and the word's; the overflow buckets stand behind the others
abbrev pub bucket_words : Places → List ℕ → ℕ → ℕ → ℕ
bucket_words p words bucket i = word_at words (bucket_place p bucket i)

abbrev pub overflow_bucket : ℕ → ℕ → ℕ
overflow_bucket buckets number = buckets + (number - 1)

-- each bucket's link leads to the next of the list, and the last bucket's nowhere
abbrev pub IsLinked : ℕ → (ℕ → ℕ → ℕ) → ℕ → List ℕ → Type 0
IsLinked buckets g bucket [] = link_of (g bucket bucket_slots) ≡ 0
IsLinked buckets g bucket (number ∷ rest) = (1 ≤ number) × (link_of (g bucket bucket_slots) ≡ number) × IsLinked buckets g (overflow_bucket buckets number) rest

-- one of the bucket and the overflow buckets of the list
abbrev pub IsAmong : ℕ → ℕ → List ℕ → ℕ → Type 0
IsAmong buckets bucket [] m = m ≡ bucket
IsAmong buckets bucket (number ∷ rest) m = (m ≡ bucket) ⊎ IsAmong buckets (overflow_bucket buckets number) rest m

-- no slot of the bucket is empty
abbrev pub IsFull : (ℕ → ℕ → ℕ) → ℕ → Type 0
IsFull g bucket = (i : ℕ) → i < bucket_slots → g bucket i ≡ 0 → ⊥

-- where a slot of the bucket is empty all later ones are
abbrev pub FillsUp : (ℕ → ℕ → ℕ) → ℕ → Type 0
FillsUp g bucket = (i j : ℕ) → i < j → j < bucket_slots → g bucket i ≡ 0 → g bucket j ≡ 0

-- the slots are filled from the left: no bucket follows one that has an empty slot
abbrev pub AreFilled : ℕ → (ℕ → ℕ → ℕ) → ℕ → List ℕ → Type 0
AreFilled buckets g bucket [] = FillsUp g bucket
AreFilled buckets g bucket (number ∷ rest) = IsFull g bucket × AreFilled buckets g (overflow_bucket buckets number) rest

-- two slots with the same tag are one slot
abbrev pub HasOneEntry : ℕ → (ℕ → ℕ → ℕ) → ℕ → List ℕ → Type 0
HasOneEntry buckets g bucket list = (m k i j : ℕ) → IsAmong buckets bucket list m → IsAmong buckets bucket list k → i < bucket_slots → j < bucket_slots
    → (g m i ≡ 0 → ⊥) → (g k j ≡ 0 → ⊥) → entry_tag (g m i) ≡ entry_tag (g k j) → (m ≡ k) × (i ≡ j)

-- a slot's word that is neither empty nor of the tag
abbrev pub IsOther : ℕ → ℕ → Type 0
IsOther tag word = (word ≡ 0 → ⊥) × (entry_tag word ≡ tag → ⊥)

-- the slots of a bucket before this one have entries of other tags
abbrev pub AreOthers : (ℕ → ℕ → ℕ) → ℕ → ℕ → ℕ → Type 0
AreOthers g tag bucket i = (j : ℕ) → j < i → IsOther tag (g bucket j)

-- all slots before slot i of bucket m have entries of other tags, in the order of the list
abbrev pub HasPassed : ℕ → (ℕ → ℕ → ℕ) → ℕ → ℕ → List ℕ → ℕ → ℕ → Type 0
HasPassed buckets g tag bucket [] m i = (m ≡ bucket) × AreOthers g tag bucket i
HasPassed buckets g tag bucket (number ∷ rest) m i =
    ((m ≡ bucket) × AreOthers g tag bucket i) ⊎ (AreOthers g tag bucket bucket_slots × HasPassed buckets g tag (overflow_bucket buckets number) rest m i)

-- no slot has an entry of the tag
abbrev pub LacksTag : ℕ → (ℕ → ℕ → ℕ) → ℕ → ℕ → List ℕ → Type 0
LacksTag buckets g tag bucket list = (m i : ℕ) → IsAmong buckets bucket list m → i < bucket_slots → (g m i ≡ 0 → ⊥) → entry_tag (g m i) ≡ tag → ⊥

abbrev pub IsMember : ℕ → List ℕ → Type 0
IsMember n [] = ⊥
IsMember n (m ∷ rest) = (n ≡ m) ⊎ IsMember n rest

-- no number stands twice
abbrev pub IsOnce : List ℕ → Type 0
IsOnce [] = ⊤
IsOnce (n ∷ rest) = (IsMember n rest → ⊥) × IsOnce rest
