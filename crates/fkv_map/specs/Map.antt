-- The plain map from keys to values, and what each operation does to it.
use Rattle.std.specs.Prelude.{◌≡◌, ℕ, ◌+◌, ◌-◌, ◌<◌, ◌==◌, ◌&&◌, Bool, true, false, IsTrue, min, max, Option, Some, None, List, map, length, slice_index}
use Rattle.std.specs.Int.Bits.{bit_and, bit_or}
use Rattle.std.specs.Ordering.{nat_cmp}
use Rattle.std.specs.FinMap.{FinMap, get, insert, remove}
use Rattle.fkv_base.specs.declared.numbers.Key.{Key}
use Rattle.fkv_base.specs.declared.numbers.Value.{Value}
use Rattle.fkv_map.specs.declared.operations.Op.{Op}
use Rattle.fkv_map.specs.declared.operations.Op.TheVariants.{Upsert, Delete, Add, Max, Read, Merge}
use Rattle.fkv_map.specs.declared.merges.Merge.{Merge as Kind}
use Rattle.fkv_map.specs.declared.merges.Merge.TheVariants.{Keep, Min, Sub, And, Or, First}
use Rattle.fkv_map.specs.declared.operations.Reply.{Reply}
use Rattle.fkv_map.specs.declared.operations.Reply.TheVariants.{Nothing, Number, Found, Absent}

-- a finite map from keys to values, both as numbers
abbrev pub Map : Type 0
Map = FinMap nat_cmp ℕ

-- the word that stands for no value, and the greatest value, which is one less
abbrev pub absent_word : ℕ
absent_word = 18446744073709551615

abbrev pub greatest_value : ℕ
greatest_value = 18446744073709551614

-- what a key has after n is added: n where it had no value, and else the sum, which stops at the greatest value
abbrev pub sum_with : Option ℕ → ℕ → ℕ
sum_with None n = n
sum_with (Some old) n = min (old + n) greatest_value

-- what a key has after it is raised to n: n where it had no value, and else the greater of the two
abbrev pub greater_with : Option ℕ → ℕ → ℕ
greater_with None n = n
greater_with (Some old) n = max old n

-- what a key has after it is lowered to n: n where it had no value, and else the less of the two
abbrev pub less_with : Option ℕ → ℕ → ℕ
less_with None n = n
less_with (Some old) n = min old n

-- what a key has after n is taken from it: 0 where it had no value, and else the difference, from 0 to the greatest value
abbrev pub rest_without : Option ℕ → ℕ → ℕ
rest_without None n = 0
rest_without (Some old) n = min (old - n) greatest_value

-- the bits that a key's value and n both have, but at most the greatest value: none where it had no value
abbrev pub bits_in_both : Option ℕ → ℕ → ℕ
bits_in_both None n = 0
bits_in_both (Some old) n = min (bit_and old n) greatest_value

-- the bits that a key's value or n has, but at most the greatest value: n where it had no value
abbrev pub bits_in_either : Option ℕ → ℕ → ℕ
bits_in_either None n = n
bits_in_either (Some old) n = min (bit_or old n) greatest_value

-- the value that a key has already, and n where it had none
abbrev pub first_of : Option ℕ → ℕ → ℕ
first_of None n = n
first_of (Some old) n = old

-- what a merge makes of a key's value: a Keep leaves it, or leaves the key without one
abbrev pub merged : Kind → Option ℕ → ℕ → Option ℕ
merged Keep old n = old
merged Min old n = Some (less_with old n)
merged Sub old n = Some (rest_without old n)
merged And old n = Some (bits_in_both old n)
merged Or old n = Some (bits_in_either old n)
merged First old n = Some (first_of old n)

-- the map in which the key has this value, or none
abbrev pub with_value : Map → ℕ → Option ℕ → Map
with_value m key None = remove m key
with_value m key (Some value) = insert m key value

-- the map after an operation
abbrev pub applied : Map → Op → Map
applied m (Upsert key value) = insert m key.0 value.0
applied m (Delete key) = remove m key.0
applied m (Add key n) = insert m key.0 (sum_with (get m key.0) n)
applied m (Max key n) = insert m key.0 (greater_with (get m key.0) n)
applied m (Read key) = m
applied m (Merge key which n) = with_value m key.0 (merged which (get m key.0) n)

-- what a read replies of a key's value
abbrev pub reply_to_read : Option ℕ → Reply
reply_to_read None = Absent
reply_to_read (Some value) = Found (record { 0 = value })

-- what a merge replies: a Keep what a read would, and each other one the value that it leaves
abbrev pub merge_reply : Kind → Option ℕ → ℕ → Reply
merge_reply Keep old n = reply_to_read old
merge_reply Min old n = Number (record { 0 = less_with old n })
merge_reply Sub old n = Number (record { 0 = rest_without old n })
merge_reply And old n = Number (record { 0 = bits_in_both old n })
merge_reply Or old n = Number (record { 0 = bits_in_either old n })
merge_reply First old n = Number (record { 0 = first_of old n })

-- what the map replies to an operation: to add and max the new value, to upsert and delete nothing, to a merge what its kind tells
abbrev pub reply_to : Map → Op → Reply
reply_to m (Upsert key value) = Nothing
reply_to m (Delete key) = Nothing
reply_to m (Add key n) = Number (record { 0 = sum_with (get m key.0) n })
reply_to m (Max key n) = Number (record { 0 = greater_with (get m key.0) n })
reply_to m (Read key) = reply_to_read (get m key.0)
reply_to m (Merge key which n) = merge_reply which (get m key.0) n

-- the merge looks at its number: each but Keep does
abbrev pub takes_number : Kind → Bool
takes_number Keep = false
takes_number Min = true
takes_number Sub = true
takes_number And = true
takes_number Or = true
takes_number First = true

-- the operation brings the word that stands for no value
abbrev pub IsReserved : Op → Type 0
IsReserved (Upsert key value) = value.0 ≡ absent_word
IsReserved (Delete key) = ⊥
IsReserved (Add key n) = n ≡ absent_word
IsReserved (Max key n) = n ≡ absent_word
IsReserved (Read key) = ⊥
IsReserved (Merge key which n) = IsTrue (takes_number which) × (n ≡ absent_word)

-- the same as a test
abbrev pub is_reserved : Op → Bool
is_reserved (Upsert key value) = value.0 == absent_word
is_reserved (Delete key) = false
is_reserved (Add key n) = n == absent_word
is_reserved (Max key n) = n == absent_word
is_reserved (Read key) = false
is_reserved (Merge key which n) = takes_number which && n == absent_word

-- the operation gives a value to a key that has none, so it takes memory
abbrev pub PutsNewKey : Map → Op → Type 0
PutsNewKey m (Upsert key value) = get m key.0 ≡ None
PutsNewKey m (Delete key) = ⊥
PutsNewKey m (Add key n) = get m key.0 ≡ None
PutsNewKey m (Max key n) = get m key.0 ≡ None
PutsNewKey m (Read key) = ⊥
PutsNewKey m (Merge key which n) = IsTrue (takes_number which) × (get m key.0 ≡ None)

-- pairs of a key and a value, as numbers
abbrev pub as_numbers : List (Key × Value) → List (ℕ × ℕ)
as_numbers pairs = map (λ pair. (pair.0.0, pair.1.0)) pairs

-- the keys rise, so that no key stands twice
abbrev pub IsAscending : List (ℕ × ℕ) → Type 0
IsAscending pairs = (i j : ℕ) → i < j → j < length pairs → slice_index (map (λ pair. pair.0) pairs) i < slice_index (map (λ pair. pair.0) pairs) j
