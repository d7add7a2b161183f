-- What a record is made of: the words that are written stand for what the operation makes, and a value that doesn't count may be any.
use Rattle.std.proofs.Common.{◌≡◌, ◌≢◌, ℕ, ◌≤◌, ◌+◌, ◌∙◌, refl, sym, ap, arith, Bool, true, false, Option, Some, None}
use Rattle.std.specs.Prelude.{◌==◌, if◌then◌else◌, min, max, IfSome}
use Rattle.std.proofs.Math.Nat.{min-le_right}
use Rattle.fkv_map.specs.declared.operations.Op.{Op}
use Rattle.fkv_map.specs.declared.operations.Op.TheVariants.{Upsert, Delete, Add, Max, Read, Merge}
use Rattle.fkv_map.specs.Map.{absent_word, greatest_value, IsReserved, merged}
use Rattle.fkv_map.proofs.Shown.{merged_is_value}
use Rattle.fkv_map.specs.Keys.{key_of, value_applied, reply_from}
use Rattle.law_log.specs.Chains.{value_at, IsWithin}
use Rattle.law_log.specs.Ghosts.{Log}
use Rattle.law_log.specs.Enabled.{StandsStill}
use Rattle.fkv_ops.specs.declared.requests.Request.{Request}
use Rattle.fkv_ops.specs.Requests.{is_blind}
use Rattle.fkv_ops.specs.Trying.{words_of}
use Rattle.fkv_ops.specs.Values.{value_of, word_of}
use Rattle.fkv_ops.proofs.Shown.{kinds_so}
use Rattle.fkv_index.specs.Slots.{entry_addr}
use Rattle.law_local.specs.Tries.TryRows.{key_in, first_of, IsOldFor, cell_of, IsMadeFor}
use Rattle.law_local.proofs.OfTries.Tests.{eq_false, test_false}

-- ---- words and values
-- a number that isn't the word for none stands for itself
there : (n : ℕ) → n ≢ absent_word → value_of n ≡ Some n
there n some = by_test (n == absent_word) (test_false n absent_word some)
  where
    by_test : (b : Bool) → b ≡ false → (if b then None else Some n) ≡ Some n
    by_test false e = refl
    by_test true e = cc

sum_there : (old n : ℕ) → min (old + n) greatest_value ≢ absent_word
sum_there old n = λ same. absurd (too_great (min (old + n) greatest_value) (min-le_right (old + n) greatest_value) same)
  where
    too_great : (x : ℕ) → x ≤ greatest_value → x ≡ absent_word → ⊥
    too_great x low same = omega (arith, low, same)

greater_there : (old n : ℕ) → old ≢ absent_word → n ≢ absent_word → max old n ≢ absent_word
greater_there old n some other = λ same. by_greater same
  where
    by_greater : max old n ≡ absent_word → ⊥
    by_greater same = grind (arith, some, other, same)

-- a word stands for none, or for itself
pub data IsOneOf (word : ℕ) : Option ℕ → Type 0 where
  IsNone : IsOneOf word None
  IsSome : word ≢ absent_word → IsOneOf word (Some word)

value_is : (word : ℕ) → IsOneOf word (value_of word)
value_is word = by_test (word == absent_word) refl
  where
    by_test : (b : Bool) → (word == absent_word) ≡ b → IsOneOf word (if b then None else Some word)
    by_test true e = IsNone
    by_test false e = IsSome (eq_false word absent_word e)

some_there : (word : ℕ) (old : Option ℕ) → IsOneOf word old → IfSome old (λ v. v ≢ absent_word)
some_there word None IsNone = tt
some_there word (Some x) (IsSome some) = some

there_if : (value : Option ℕ) → IfSome value (λ v. v ≢ absent_word) → value_of (word_of value) ≡ value
there_if None none = refl
there_if (Some v) some = there v some

made_of : (word : ℕ) (op : Op) (old : Option ℕ) → IsOneOf word old → (IsReserved op → ⊥) → value_of (word_of (value_applied old op)) ≡ value_applied old op
made_of word (Upsert key value) old is plain = there value.0 plain
made_of word (Delete key) old is plain = refl
made_of word (Add key n) None IsNone plain = there n plain
made_of word (Add key n) (Some x) (IsSome some) plain = there (min (x + n) greatest_value) (sum_there x n)
made_of word (Max key n) None IsNone plain = there n plain
made_of word (Max key n) (Some x) (IsSome some) plain = there (max x n) (greater_there x n some plain)
made_of word (Merge key which n) old is plain = there_if (merged which old n) (merged_is_value which old n (some_there word old is) (λ takes same. plain (takes, same)))
made_of word (Read key) None IsNone plain = refl
made_of word (Read key) (Some x) (IsSome some) plain = there x some

-- the word that is written stands for what the operation makes of the word that was found
pub made_word : (word : ℕ) (op : Op) → (IsReserved op → ⊥) → value_of (word_of (value_applied (value_of word) op)) ≡ value_applied (value_of word) op
made_word word op plain = made_of word op (value_of word) (value_is word) plain

-- ---- old values
pub same_old : (op : Op) (word : ℕ) (value : Option ℕ) → value_of word ≡ value → IsOldFor op word value
same_old op word value same = record { same_value = ap (λ v. value_applied v op) same; same_reply = ap (λ v. reply_from v op) same }

-- where the old value doesn't count, it may be any
pub blind_old : (op : Op) (word : ℕ) (value : Option ℕ) → is_blind op ≡ true → IsOldFor op word value
blind_old op word value blind = record {
  same_value = kinds_so.same_value op (value_of word) blind ∙ sym (kinds_so.same_value op value blind);
  same_reply = kinds_so.same_reply op (value_of word) blind ∙ sym (kinds_so.same_reply op value blind);
}

-- ---- a record that is made of an old value
pub made_so : (home : ℕ → ℕ) (log : Log) (request : Request) (entry word : ℕ) → (IsReserved request.op → ⊥) → IsWithin (entry_addr entry) (log.chains (home (key_in request)))
    → StandsStill log (first_of home log request (entry_addr entry)) request.version.0 → IsOldFor request.op word (value_at (log.cells (first_of home log request (entry_addr entry))))
    → IsMadeFor home log request.op (reply_from (value_of word) request.op) (cell_of request.version.0 (words_of request entry (value_of word)))
made_so home log request entry word plain begins still its_old = λ its is. record {
  its_key = ap (λ o. (key_of o).0) (sym is.0);
  leads = begins;
  still = still;
  its_value = made_word word request.op plain ∙ its_old.same_value ∙ ap (value_applied (value_at (log.cells (first_of home log request (entry_addr entry))))) (sym is.0);
  its_reply = is.1 ∙ its_old.same_reply ∙ ap (reply_from (value_at (log.cells (first_of home log request (entry_addr entry))))) (sym is.0);
}
