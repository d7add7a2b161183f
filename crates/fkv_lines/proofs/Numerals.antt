-- Words of digits, and the numbers that they spell.
use Rattle.std.proofs.Common.{◌≡◌, ℕ, ◌^◌, true, false, List, length, get_or, Result, Ok, Err, MatchResult, nat_eq, nat_lt, rules, arith, refl, ap, ◌∙◌, inl, inr, ne_eqb, lt-ltb}
use Rattle.std.specs.Int.{IsInRange}
use Rattle.std.proofs.lemmas.Bool.{cases_lt, cases_Bool, eqb-false, ltb-true}
use Rattle.std.proofs.lemmas.List.{get_or_past}
use Rattle.std.specs.Char.{is_ascii_digit}
use Rattle.std.specs.List.{list_all}
use Rattle.std.specs.Str.{IsUtf8}
use Rattle.std.specs.Str.Parse.{digits_value, ParsesUnsigned}
use Rattle.std.proofs.lemmas.Str.{IsUtf8-from_ascii}
use Rattle.std.proofs.lemmas.Str.Parse.{IsNumeralModel, numerals_by_value, parse_digits, digit_at}
use Rattle.fkv_base.specs.declared.faults.ScriptFault.{ScriptFault}
use Rattle.fkv_base.specs.declared.faults.ScriptFault.TheVariants.{Number}
use Rattle.fkv_lines.specs.Numbers.{number_of}

digits : IsNumeralModel (λ word. list_all is_ascii_digit word ≡ true) (digits_value 10)
digits = numerals_by_value _ (search rules)

pub digits_are_text : (word : List ℕ) → list_all is_ascii_digit word ≡ true → IsUtf8 word
digits_are_text word all = IsUtf8-from_ascii word (λ i. elim (cases_lt i (length word)) [
  | inl lt ↦ let d : IsInRange 48 57 (get_or word i 0) = digit_at word i (digits.to word all) lt in omega arith
  | inr le ↦ rw (get_or_past word i 0 le) (omega arith)
])

pub number_of-parsed : {E : Type 0} (word : List ℕ) (r : Result ℕ E) (result : Result ℕ ScriptFault) → list_all is_ascii_digit word ≡ true → ParsesUnsigned 64 10 word r
    → MatchResult r (λ n. result ≡ Ok n) (λ _. result ≡ Err Number) → result ≡ number_of word
unfolding number_of
number_of-parsed {E} word (Ok n) result all parsed told =
    let p = parse_digits digits {E = E} 64 word (Ok n) parsed all in
    let some : nat_eq (length word) 0 ≡ false = ne_eqb _ _ (λ e. absurd (omega (arith, p.0.0))) in
    let small : nat_lt (digits_value 10 word) (2 ^ 64) ≡ true = lt-ltb _ _ p.0.1 in
    told ∙ rw (some, all, small) (ap (λ (k : ℕ). Ok k) p.1)
number_of-parsed {E} word (Err e) result all parsed told =
    let p = parse_digits digits {E = E} 64 word (Err e) parsed all in
    elim (cases_Bool (nat_eq (length word) 0)) [
      | inl none ↦ told ∙ rw none refl
      | inr some ↦ elim (cases_Bool (nat_lt (digits_value 10 word) (2 ^ 64))) [
        | inl small ↦ absurd (p (omega (arith, eqb-false _ _ some), ltb-true _ _ small))
        | inr large ↦ told ∙ rw (some, all, large) refl
      ]
    ]
