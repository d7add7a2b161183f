-- What is read of the texts that clap's matches hold.
use Rattle.std.proofs.Common.{◌≡◌, ℕ, ◌&&◌, ◌^◌, Bool, true, false, List, [], ◌∷◌, length, Option, Some, None, Result, Ok, Err, nat_lt, refl, sym, ap, true≢false, lt-ltb, ltb-true, codes}
use Rattle.std.specs.Prelude.{option_and_then, unwrap_or}
use Rattle.std.specs.List.{list_all}
use Rattle.std.specs.Option.{option_map_or}
use Rattle.std.specs.Char.{digit_value}
use Rattle.std.specs.Str.{bytes_eq}
use Rattle.std.specs.Str.Parse.{AllDigits, ParsesBool, ParsesUnsigned, digits_value, without_leading_plus}
use Rattle.std.proofs.lemmas.Slice.Eq.{bytes_eq-Decides}
use Rattle.clap.specs.Matches.{ReadsOne}
use Rattle.clap.specs.ValueTests.{is_numeral}
use Rattle.clap.specs.Walk.{Text}
use Rattle.fkv_options.specs.Options.{number_below}

digits_pass : (digits : List ℕ) → AllDigits 10 digits → list_all (λ d. nat_lt (digit_value d) 10) digits ≡ true
digits_pass [] all = refl
digits_pass (d ∷ digits) all = rw (lt-ltb (digit_value d) 10 all.0) (digits_pass digits all.1)

both : (a b : Bool) → (a && b) ≡ true → (a ≡ true) × (b ≡ true)
both true b e = (refl, e)
both false b e = absurd (true≢false (sym e))

digits_from : (digits : List ℕ) → list_all (λ d. nat_lt (digit_value d) 10) digits ≡ true → AllDigits 10 digits
digits_from [] e = tt
digits_from (d ∷ digits) e =
    let parts = both _ _ e in
    (ltb-true _ _ parts.0, digits_from digits parts.1)

abbrev fits : ℕ → List ℕ → Bool
fits bits digits = is_numeral digits && nat_lt (digits_value 10 digits) (2 ^ bits)

-- what the reader of a number of so many bits gives is the number that the text spells
pub number_read : {E : Type 0} (bits : ℕ) (gives : List ℕ → Result ℕ E → Type 0) (text : Text) (read : Option ℕ) → ReadsOne gives text read
    → ((t : List ℕ) (r : Result ℕ E) → gives t r → ParsesUnsigned bits 10 t r) → read ≡ number_below (2 ^ bits) text
number_read {E} bits gives text (Some n) h only =
    let parsed = only text (Ok n) h in
    let digits = without_leading_plus text in
    rw (lt-ltb 0 (length digits) parsed.0.0.0, digits_pass digits parsed.0.0.1, lt-ltb (digits_value 10 digits) (2 ^ bits) parsed.0.1) (ap Some parsed.1)
number_read {E} bits gives text None h only = go (fits bits (without_leading_plus text)) refl
  where
    refused : ParsesUnsigned {E = E} bits 10 text (Err h.0)
    refused = only text (Err h.0) h.1

    go : (b : Bool) → fits bits (without_leading_plus text) ≡ b → None ≡ number_below (2 ^ bits) text
    go false is = rw is refl
    go true is =
        let outer = both _ _ is in
        let inner = both _ _ outer.0 in
        absurd (refused ((ltb-true _ _ inner.0, digits_from (without_leading_plus text) inner.1), ltb-true _ _ outer.1))

-- the same of the matches, which may have no text
pub option_read : (f : Text → Option ℕ) (text : Option Text) (read : Option ℕ) → (text ≡ None → read ≡ None) → ((t : Text) → text ≡ Some t → read ≡ f t) → read ≡ option_and_then f text
option_read f None read none some = none refl
option_read f (Some t) read none some = some t refl

abbrev is_true : Text → Bool
is_true text = bytes_eq text (codes "true")

-- what the reader of a flag gives, or false where it gives nothing, is whether the text is `true`
pub flag_read : {E : Type 0} (gives : List ℕ → Result Bool E → Type 0) (text : Text) (read : Option Bool) → ReadsOne gives text read
    → ((t : List ℕ) (r : Result Bool E) → gives t r → ParsesBool t r) → unwrap_or read false ≡ is_true text
flag_read {E} gives text (Some true) h only = sym (ap is_true (only text (Ok true) h))
flag_read {E} gives text (Some false) h only = sym (ap is_true (only text (Ok false) h))
flag_read {E} gives text None h only = go (is_true text) refl
  where
    refused : ParsesBool {E = E} text (Err h.0)
    refused = only text (Err h.0) h.1

    go : (b : Bool) → is_true text ≡ b → false ≡ is_true text
    go false is = sym is
    go true is = absurd (refused.0 ((bytes_eq-Decides text (codes "true")).0 is))

-- the same of the matches, which may have no text
pub option_flag_read : (text : Option Text) (read : Option Bool) → (text ≡ None → read ≡ None) → ((t : Text) → text ≡ Some t → unwrap_or read false ≡ is_true t)
    → unwrap_or read false ≡ option_map_or is_true text false
option_flag_read None read none some = ap (λ (o : Option Bool). unwrap_or o false) (none refl)
option_flag_read (Some t) read none some = some t refl
