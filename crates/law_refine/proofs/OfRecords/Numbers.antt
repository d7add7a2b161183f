-- Words say what was spelled in them: a header its record, and a value's word the value, where no operation brings the word for none.
use Rattle.std.proofs.Common.{◌≡◌, ◌≢◌, ℕ, ◌+◌, ◌*◌, ◌<◌, ◌^◌, ◌%◌, ◌/◌, ◌∙◌, arith, refl, ap, Bool, true, false, min, max}
use Rattle.std.specs.Prelude.{◌==◌, if◌then◌else◌, Option, Some, None, IfSome}
use Rattle.std.proofs.lemmas.Bool.Decides.{nat_tests}
use Rattle.fkv_marks.specs.Marks.{mark}
use Rattle.fkv_map.specs.declared.operations.Op.{Op}
use Rattle.fkv_map.specs.declared.operations.Op.TheVariants.{Upsert, Delete, Add, Max, Read, Merge}
use Rattle.fkv_map.specs.Keys.{value_applied}
use Rattle.fkv_map.specs.Map.{absent_word, greatest_value, sum_with, greater_with, merged}
use Rattle.fkv_map.proofs.Shown.{merged_is_value, free_by_test}
use Rattle.fkv_words.specs.declared.headers.Header.{Header}
use Rattle.fkv_words.specs.Fields.{bit_of}
use Rattle.fkv_words.specs.Layout.{header_word}
use Rattle.fkv_words.proofs.Shown.{bit_small}
use Rattle.law_world.specs.Below.fkv_log.RecordWords.{RecordWords}
use Rattle.law_world.specs.Below.fkv_ops.HeaderSaid.TheVariants.{Says}
use Rattle.law_world.specs.Below.fkv_ops.HeaderWords.{header_said}
use Rattle.law_world.specs.Below.fkv_ops.Values.{value_of, word_of}
use Rattle.fkv_plane.specs.declared.places.RecordWord.{RecordWord}
use Rattle.law_local.specs.Tries.TryRows.{cell_of}
use Rattle.law_refine.specs.Records.Cells.{ShowsCell}
use Rattle.law_refine.proofs.OfRecords.AppendRows.{IsFilled}
use Rattle.law_refine.proofs.OfRecords.AttemptRows.{IsAllowed}

-- ---- headers
spelled : (word previous version bit : ℕ) → previous + version * 2 ^ 48 + bit * 2 ^ 62 ≡ word → previous < 2 ^ 48 → 0 < version → version < 2 ^ 13 → bit < 2
    → header_said word ≡ Says (record { 0 = previous }) (record { 0 = version })
unfolding header_said
spelled word previous version bit its fits some small few =
    let a : word % 2 ^ 48 ≡ previous = omega (arith, its, fits) in
    let d : word / 2 ^ 48 % 2 ^ 13 ≡ version = omega (arith, its, fits, small, few) in
    let some_version : (word / 2 ^ 48 % 2 ^ 13 == 0) ≡ false = grind (arith, nat_tests, d, some) in
    let low : (word / 2 ^ 61 % 2 == 0) ≡ true = (let h : word / 2 ^ 61 % 2 ≡ 0 = omega (arith, its, fits, small, few) in grind (arith, nat_tests, h)) in
    let high : (word / 2 ^ 63 == 0) ≡ true = (let h : word / 2 ^ 63 ≡ 0 = omega (arith, its, fits, small, few) in grind (arith, nat_tests, h)) in
    rw (some_version, low, high, a, d) refl

pub header_back : (header : Header) → header_said (header_word header) ≡ Says (record { 0 = header.previous.0 }) (record { 0 = header.version.0 })
header_back header = spelled (header_word header) header.previous.0 header.version.0 (bit_of header.invalid) refl header.previous_fits header.some_version header.version_fits (bit_small header.invalid)

-- a record whose words stand, with the mark of its version, shows itself
pub filled_shows : (words : RecordWord → ℕ) (version : ℕ) (its : RecordWords) → its.header.version.0 ≡ mark version → IsFilled words its → ShowsCell words (cell_of version its)
filled_shows words version its marked filled = record {
  header = ap header_said filled.header ∙ header_back its.header ∙ ap (λ (n : ℕ). Says (record { 0 = its.header.previous.0 }) (record { 0 = n })) marked;
  key = filled.key;
  value = ap value_of filled.value;
}

-- ---- values
value_kept : (n : ℕ) → n ≢ absent_word → value_of n ≡ Some n
value_kept n other = by_test (n == absent_word) refl
  where
    by_test : (c : Bool) → (n == absent_word) ≡ c → (if c then None else Some n) ≡ Some n
    by_test true e = let same : n ≡ absent_word = grind (arith, nat_tests, e) in absurd (other same)
    by_test false e = refl

not_absent : (n : ℕ) → (n == absent_word) ≡ false → n ≢ absent_word
not_absent n e = λ same. absurd (grind (arith, nat_tests, e, same))

-- what a word stands for is never the word for none
number_of : (word : ℕ) → value_of word ≢ Some absent_word
number_of word = by_test (word == absent_word) refl
  where
    by_test : (c : Bool) → (word == absent_word) ≡ c → ◌≢◌ {A = Option ℕ} (if c then None else Some word) (Some absent_word)
    by_test true e = λ same. cc
    by_test false e = λ same. let here : word ≡ absent_word = cc in absurd (not_absent word e here)

least_small : (a : ℕ) → min a greatest_value ≢ absent_word
least_small a = λ e. omega (arith, e)

most_other : (a b : ℕ) → a ≢ absent_word → b ≢ absent_word → max a b ≢ absent_word
most_other a b one other = λ e. omega (arith, e, one, other)

some_other : (n : ℕ) → Some n ≢ Some absent_word → n ≢ absent_word
some_other n other = λ e. other (ap Some e)

there_other : (old : Option ℕ) → old ≢ Some absent_word → IfSome old (λ v. v ≢ absent_word)
there_other None other = tt
there_other (Some v) other = some_other v other

kept_if : (value : Option ℕ) → IfSome value (λ v. v ≢ absent_word) → value_of (word_of value) ≡ value
kept_if None other = refl
kept_if (Some v) other = value_kept v other

applied_back : (old : Option ℕ) (op : Op) → old ≢ Some absent_word → IsAllowed op → value_of (word_of (value_applied old op)) ≡ value_applied old op
applied_back old (Upsert key value) number allowed = value_kept value.0 (not_absent value.0 allowed)
applied_back old (Delete key) number allowed = refl
applied_back None (Add key n) number allowed = value_kept n (not_absent n allowed)
applied_back (Some before) (Add key n) number allowed = value_kept (sum_with (Some before) n) (least_small (before + n))
applied_back None (Max key n) number allowed = value_kept n (not_absent n allowed)
applied_back (Some before) (Max key n) number allowed = value_kept (greater_with (Some before) n) (most_other before n (some_other before number) (not_absent n allowed))
applied_back old (Merge key which n) number allowed = kept_if (merged which old n) (merged_is_value which old n (there_other old number) (λ takes same. free_by_test (Merge key which n) allowed (takes, same)))
applied_back None (Read key) number allowed = refl
applied_back (Some before) (Read key) number allowed = value_kept before (some_other before number)

pub value_back : (word : ℕ) (op : Op) → IsAllowed op → value_of (word_of (value_applied (value_of word) op)) ≡ value_applied (value_of word) op
value_back word op allowed = applied_back (value_of word) op (number_of word) allowed
