-- The values that a history leaves.
use Rattle.std.proofs.Common.{◌≡◌, ◌&&◌, IsTrue, ℕ, ◌-◌, min, ◌≤◌, ◌<◌, ◌≢◌, Bool, true, false, cond, List, [], ◌∷◌, ◌++◌, Option, Some, None, IfSome, All, suc, ◌^◌, refl, arith}
use Rattle.std.specs.Prelude.{◌==◌}
use Rattle.std.proofs.lemmas.Bool.Decides.{nat_tests}
use Rattle.std.specs.FinMap.{get, empty, insert, remove, get-empty, get-insert, get-remove}
use Rattle.std.proofs.lemmas.List.Elements.{All-head, All-tail, All-nil, All-cons, All-push, All-contains}
use Rattle.std.specs.Ordering.{nat_cmp, eq_by_cmp}
use Rattle.std.proofs.lemmas.Cmp.{nat_cmp_total}
use Rattle.std.specs.Int.Bits.{bit_and, bit_or}
use Rattle.std.proofs.Math.Nat.{min-le_right}
use Rattle.fkv_map.specs.Fits.{NumberFits}
use Rattle.fkv_map.specs.declared.operations.Op.{Op}
use Rattle.fkv_map.specs.declared.operations.Op.TheVariants.{Upsert, Delete, Add, Max, Read, Merge}
use Rattle.fkv_map.specs.declared.merges.Merge.{Merge as Kind}
use Rattle.fkv_map.specs.declared.merges.Merge.TheVariants.{Keep, Min, Sub, And, Or, First}
use Rattle.fkv_map.specs.declared.history.HistoryEntry.{HistoryEntry}
use Rattle.fkv_map.specs.Map.{Map, applied, sum_with, greater_with, with_value, merged, takes_number, IsReserved, is_reserved, greatest_value, absent_word}
use Rattle.fkv_map.specs.History.{content, kept, HasReserved}
use Rattle.fkv_map.proofs.KeptEntries.{All-kept}
use Rattle.fkv_base.specs.declared.numbers.Serial.{Serial}

-- the operation's value is at most the greatest
abbrev pub IsWithin : Op → Type 0
IsWithin (Upsert key value) = value.0 ≤ greatest_value
IsWithin (Delete key) = Unit {0}
IsWithin (Add key n) = n ≤ greatest_value
IsWithin (Max key n) = n ≤ greatest_value
IsWithin (Read key) = Unit {0}
IsWithin (Merge key which n) = IsTrue (takes_number which) → n ≤ greatest_value

-- the operation's value is a word of 64 bits, as every value of a program is
abbrev pub IsWord : Op → Type 0
IsWord (Upsert key value) = value.0 < 2 ^ 64
IsWord (Delete key) = Unit {0}
IsWord (Add key n) = n < 2 ^ 64
IsWord (Max key n) = n < 2 ^ 64
IsWord (Read key) = Unit {0}
IsWord (Merge key which n) = n < 2 ^ 64

module _ (P : ℕ → Type 0) where
  -- P holds of each value of the map
  abbrev pub AllValues : Map → Type 0
  AllValues m = (key : ℕ) → IfSome (get m key) P

  holds_of_cond : (b : Bool) (v : ℕ) (rest : Option ℕ) → P v → IfSome rest P → IfSome (cond b (Some v) rest) P
  holds_of_cond true v rest new old = new
  holds_of_cond false v rest new old = old

  holds_of_cond_none : (b : Bool) (rest : Option ℕ) → IfSome rest P → IfSome (cond b None rest) P
  holds_of_cond_none true rest old = tt
  holds_of_cond_none false rest old = old

  pub AllValues-empty : AllValues empty
  AllValues-empty key = rw (get-empty nat_cmp key) tt

  pub AllValues-insert : (m : Map) (key v : ℕ) → AllValues m → P v → AllValues (insert m key v)
  AllValues-insert m key v old new q = rw (get-insert nat_cmp_total m key v q) (holds_of_cond (eq_by_cmp nat_cmp q key) v (get m q) new (old q))

  pub AllValues-remove : (m : Map) (key : ℕ) → AllValues m → AllValues (remove m key)
  AllValues-remove m key old q = rw (get-remove nat_cmp_total m key q) (holds_of_cond_none (eq_by_cmp nat_cmp q key) (get m q) (old q))

module _ (P : ℕ → Type 0) where
  -- P of what there is and of the number that is looked at, and of what is at most the greatest value, is P of what a merge leaves
  abbrev pub AreMerged : Type 0
  AreMerged = (which : Kind) (old : Option ℕ) (n : ℕ) → IfSome old P → (IsTrue (takes_number which) → P n) → IfSome (merged which old n) P

  merged_keeps : ((v : ℕ) → v ≤ greatest_value → P v) → ((v n : ℕ) → P v → P n → P (min v n)) → AreMerged
  merged_keeps low least Keep old n was new = was
  merged_keeps low least Min None n was new = new refl
  merged_keeps low least Min (Some v) n was new = least v n was (new refl)
  merged_keeps low least Sub None n was new = low 0 (omega arith)
  merged_keeps low least Sub (Some v) n was new = low _ (min-le_right (v - n) greatest_value)
  merged_keeps low least And None n was new = low 0 (omega arith)
  merged_keeps low least And (Some v) n was new = low _ (min-le_right (bit_and v n) greatest_value)
  merged_keeps low least Or None n was new = new refl
  merged_keeps low least Or (Some v) n was new = low _ (min-le_right (bit_or v n) greatest_value)
  merged_keeps low least First None n was new = new refl
  merged_keeps low least First (Some v) n was new = was

  put_values : (m : Map) (key : ℕ) → AllValues P m → (new : Option ℕ) → IfSome new P → AllValues P (with_value m key new)
  put_values m key old None new = AllValues-remove P m key old
  put_values m key old (Some v) new = AllValues-insert P m key v old new

-- ---- no value is the word that stands for none
abbrev pub IsValue : ℕ → Type 0
IsValue v = v ≢ absent_word

sum_is_value : (old : Option ℕ) (n : ℕ) → IsValue n → IsValue (sum_with old n)
sum_is_value None n new = new
sum_is_value (Some v) n new = λ same. grind arith

greater_is_value : (old : Option ℕ) (n : ℕ) → IfSome old IsValue → IsValue n → IsValue (greater_with old n)
greater_is_value None n old new = new
greater_is_value (Some v) n old new = λ same. grind (arith, old, new)

-- a merge leaves no word that stands for none, where neither what there was nor its number is one
pub merged_is_value : AreMerged IsValue
merged_is_value = merged_keeps IsValue (λ v low same. omega (arith, low, same)) (λ v n one other same. least v n one other same)
  where
    least : (v n : ℕ) → IsValue v → IsValue n → min v n ≡ absent_word → ⊥
    least v n one other same = grind (arith, one, other, same)

pub values-applied : (m : Map) (op : Op) → AllValues IsValue m → ¬ IsReserved op → AllValues IsValue (applied m op)
values-applied m (Upsert key value) old free = AllValues-insert IsValue m key.0 value.0 old free
values-applied m (Delete key) old free = AllValues-remove IsValue m key.0 old
values-applied m (Add key n) old free = AllValues-insert IsValue m key.0 _ old (sum_is_value (get m key.0) n free)
values-applied m (Max key n) old free = AllValues-insert IsValue m key.0 _ old (greater_is_value (get m key.0) n (old key.0) free)
values-applied m (Read key) old free = old
values-applied m (Merge key which n) old free = put_values IsValue m key.0 old _ (merged_is_value which (get m key.0) n (old key.0) (λ takes same. free (takes, same)))

free_first : (entry : HistoryEntry) (later : List HistoryEntry) → ¬ HasReserved (entry ∷ later) → ¬ IsReserved entry.op
free_first entry later free reserved = free (entry, (0, omega arith, refl), reserved)

free_later : (entry : HistoryEntry) (later : List HistoryEntry) → ¬ HasReserved (entry ∷ later) → ¬ HasReserved later
free_later entry later free (other, (k, within, is), reserved) = free (other, (suc k, omega arith, is), reserved)

pub values-content : (m : Map) (history : List HistoryEntry) → AllValues IsValue m → ¬ HasReserved history → AllValues IsValue (content m history)
values-content m [] old free = old
values-content m (entry ∷ later) old free =
    values-content (applied m entry.op) later (values-applied m entry.op old (free_first entry later free)) (free_later entry later free)

-- what a history with no reserved operation makes of the empty map has that word at no key
pub values_of_history : (history : List HistoryEntry) → ¬ HasReserved history → AllValues IsValue (content empty history)
values_of_history history free = values-content empty history (AllValues-empty IsValue) free

-- ---- every value is at most the greatest
abbrev pub IsSmall : ℕ → Type 0
IsSmall v = v ≤ greatest_value

sum_is_small : (old : Option ℕ) (n : ℕ) → IsSmall n → IsSmall (sum_with old n)
sum_is_small None n new = new
sum_is_small (Some v) n new = grind arith

greater_is_small : (old : Option ℕ) (n : ℕ) → IfSome old IsSmall → IsSmall n → IsSmall (greater_with old n)
greater_is_small None n old new = new
greater_is_small (Some v) n old new = grind (arith, old, new)

merged_is_small : AreMerged IsSmall
merged_is_small = merged_keeps IsSmall (λ v low. low) (λ v n one other. omega (arith, one, other))

pub small-applied : (m : Map) (op : Op) → AllValues IsSmall m → IsWithin op → AllValues IsSmall (applied m op)
small-applied m (Upsert key value) old within = AllValues-insert IsSmall m key.0 value.0 old within
small-applied m (Delete key) old within = AllValues-remove IsSmall m key.0 old
small-applied m (Add key n) old within = AllValues-insert IsSmall m key.0 _ old (sum_is_small (get m key.0) n within)
small-applied m (Max key n) old within = AllValues-insert IsSmall m key.0 _ old (greater_is_small (get m key.0) n (old key.0) within)
small-applied m (Read key) old within = old
small-applied m (Merge key which n) old within = put_values IsSmall m key.0 old _ (merged_is_small which (get m key.0) n (old key.0) within)

pub small-content : (m : Map) (history : List HistoryEntry) → AllValues IsSmall m → All (λ entry. IsWithin entry.op) history → AllValues IsSmall (content m history)
small-content m [] old within = old
small-content m (entry ∷ later) old within =
    small-content (applied m entry.op) later (small-applied m entry.op old (All-head (λ x. IsWithin x.op) entry later within)) (All-tail (λ x. IsWithin x.op) entry later within)

-- what operations with values of at most the greatest make of the empty map has no greater value
pub small_of_history : (history : List HistoryEntry) → All (λ entry. IsWithin entry.op) history → AllValues IsSmall (content empty history)
small_of_history history within = small-content empty history (AllValues-empty IsSmall) within

-- an operation on words of 64 bits that is not reserved brings at most the greatest value
pub IsWithin-from_words : (op : Op) → ¬ IsReserved op → IsWord op → IsWithin op
IsWithin-from_words (Upsert key value) free word = omega (arith, free)
IsWithin-from_words (Delete key) free word = tt
IsWithin-from_words (Add key n) free word = omega (arith, free)
IsWithin-from_words (Max key n) free word = omega (arith, free)
IsWithin-from_words (Read key) free word = tt
IsWithin-from_words (Merge key which n) free word = λ takes. at_most (λ same. free (takes, same))
  where
    at_most : (n ≡ absent_word → ⊥) → n ≤ greatest_value
    at_most other = grind (arith, word, other)

-- a merge of words leaves a word
pub merged_fits : AreMerged NumberFits
merged_fits = merged_keeps NumberFits (λ v low. omega (arith, low)) (λ v n one other. omega (arith, one, other))

-- ---- the test for reserved operations
equal_so : (a b : ℕ) → (a == b) ≡ true → a ≡ b
equal_so a b e = grind (arith, nat_tests, e)

other_so : (a b : ℕ) → (a == b) ≡ false → a ≢ b
other_so a b e same = grind (arith, nat_tests, e, same)

merge_reserved : (takes : Bool) (n : ℕ) → (takes && n == absent_word) ≡ true → IsTrue takes × (n ≡ absent_word)
merge_reserved true n e = (refl, equal_so n absent_word e)
merge_reserved false n e = cc

merge_free : (takes : Bool) (n : ℕ) → (takes && n == absent_word) ≡ false → IsTrue takes → n ≢ absent_word
merge_free true n e is = other_so n absent_word e
merge_free false n e is = cc

pub reserved_by_test : (op : Op) → is_reserved op ≡ true → IsReserved op
reserved_by_test (Upsert key value) e = equal_so value.0 absent_word e
reserved_by_test (Delete key) e = cc
reserved_by_test (Add key n) e = equal_so n absent_word e
reserved_by_test (Max key n) e = equal_so n absent_word e
reserved_by_test (Read key) e = cc
reserved_by_test (Merge key which n) e = merge_reserved (takes_number which) n e

pub free_by_test : (op : Op) → is_reserved op ≡ false → IsReserved op → ⊥
free_by_test (Upsert key value) e is = other_so value.0 absent_word e is
free_by_test (Delete key) e is = is
free_by_test (Add key n) e is = other_so n absent_word e is
free_by_test (Max key n) e is = other_so n absent_word e is
free_by_test (Read key) e is = is
free_by_test (Merge key which n) e is = merge_free (takes_number which) n e is.0 is.1

-- ---- histories with no reserved operation
pub free_from_All : (history : List HistoryEntry) → All (λ entry. ¬ IsReserved entry.op) history → ¬ HasReserved history
free_from_All history all (entry, among, reserved) = All-contains (λ x. ¬ IsReserved x.op) history entry all among reserved

pub All-from_free : (history : List HistoryEntry) → ¬ HasReserved history → All (λ entry. ¬ IsReserved entry.op) history
All-from_free [] free = All-nil (λ x. ¬ IsReserved x.op)
All-from_free (entry ∷ later) free = All-cons (λ x. ¬ IsReserved x.op) entry later (free_first entry later free) (All-from_free later (free_later entry later free))

-- what is kept of a history with no reserved operation has none, nor has one more entry that isn't
pub free-kept : (history : List HistoryEntry) (points : List Serial) → ¬ HasReserved history → ¬ HasReserved (kept history points)
free-kept history points free = free_from_All (kept history points) (All-kept (λ x. ¬ IsReserved x.op) history points (All-from_free history free))

pub free-push : (earlier : List HistoryEntry) (entry : HistoryEntry) → ¬ HasReserved earlier → ¬ IsReserved entry.op → ¬ HasReserved (earlier ++ entry ∷ [])
free-push earlier entry free new = free_from_All (earlier ++ entry ∷ []) (All-push (λ x. ¬ IsReserved x.op) earlier entry (All-from_free earlier free) new)
