-- Numbers that fit in a word, and what operations make of them.
use Rattle.std.proofs.Common.{ℕ, ◌+◌, arith, Bool, true, false, min, max}
use Rattle.std.specs.Prelude.{◌==◌, if◌then◌else◌, Option, Some, None, IfSome}
use Rattle.fkv_map.specs.Fits.{NumberFits, OpFits}
use Rattle.fkv_map.specs.Keys.{key_of, value_applied}
use Rattle.fkv_map.specs.Map.{absent_word, greatest_value, merged}
use Rattle.fkv_map.proofs.Shown.{merged_fits}
use Rattle.fkv_map.specs.declared.operations.Op.{Op}
use Rattle.fkv_map.specs.declared.operations.Op.TheVariants.{Upsert, Delete, Add, Max, Read, Merge}
use Rattle.law_refine.specs.Below.fkv_ops.Values.{value_of, word_of}
use Rattle.law_opening.specs.Changes.Fits.{ValueFits}

-- ---- what an operation makes of a value
pub key_fits : (op : Op) → OpFits op → NumberFits (key_of op).0
key_fits (Upsert key value) fits = fits.0
key_fits (Delete key) fits = fits
key_fits (Add key n) fits = fits.0
key_fits (Max key n) fits = fits.0
key_fits (Read key) fits = fits
key_fits (Merge key which n) fits = fits.0

sum_fits : (a : ℕ) → NumberFits (min a greatest_value)
sum_fits a = omega arith

greater_fits : (a b : ℕ) → NumberFits a → NumberFits b → NumberFits (max a b)
greater_fits a b one other = omega (arith, one, other)

some_fits : (old : Option ℕ) → ValueFits old → IfSome old NumberFits
some_fits None was = was
some_fits (Some before) was = was

value_fits : (value : Option ℕ) → IfSome value NumberFits → ValueFits value
value_fits None fits = fits
value_fits (Some after) fits = fits

pub applied_fits : (old : Option ℕ) (op : Op) → ValueFits old → OpFits op → ValueFits (value_applied old op)
applied_fits old (Upsert key value) was fits = fits.1
applied_fits old (Delete key) was fits = tt
applied_fits None (Add key n) was fits = fits.1
applied_fits (Some before) (Add key n) was fits = sum_fits (before + n)
applied_fits None (Max key n) was fits = fits.1
applied_fits (Some before) (Max key n) was fits = greater_fits before n was fits.1
applied_fits old (Read key) was fits = was
applied_fits old (Merge key which n) was fits = value_fits (merged which old n) (merged_fits which old n (some_fits old was) (λ takes. fits.1))

-- ---- values and their words
pub word_fits : (value : Option ℕ) → ValueFits value → NumberFits (word_of value)
word_fits None fits = omega arith
word_fits (Some n) fits = fits

pub said_fits : (word : ℕ) → NumberFits word → ValueFits (value_of word)
said_fits word fits = by_test (word == absent_word)
  where
    by_test : (absent : Bool) → ValueFits (if absent then None else Some word)
    by_test true = tt
    by_test false = fits

pub absent_fits : NumberFits absent_word
absent_fits = omega arith
