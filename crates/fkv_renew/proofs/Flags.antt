-- What is read of a flag.
use Rattle.std.proofs.Common.{◌≡◌, ℕ, Bool, true, false, List, Option, Some, None, Result, Ok, Err, refl, sym, ap, codes}
use Rattle.std.specs.Prelude.{unwrap_or}
use Rattle.std.specs.Option.{option_map_or}
use Rattle.std.specs.Str.{bytes_eq}
use Rattle.std.specs.Str.Parse.{ParsesBool}
use Rattle.std.proofs.lemmas.Slice.Eq.{bytes_eq-Decides}
use Rattle.clap.specs.Matches.{ReadsOne}
use Rattle.clap.specs.Walk.{Text}

abbrev is_true : Text → Bool
is_true text = bytes_eq text (codes "true")

-- what the reader of a flag gives, or false where it gives nothing, is whether the text is `true`
flag_read : {E : Type 0} (gives : List ℕ → Result Bool E → Type 0) (text : Text) (read : Option Bool) → ReadsOne gives text read
    → ((t : List ℕ) (r : Result Bool E) → gives t r → ParsesBool t r) → unwrap_or read false ≡ is_true text
flag_read {E} gives text (Some true) h only = sym (ap is_true (only text (Ok true) h))
flag_read {E} gives text (Some false) h only = sym (ap is_true (only text (Ok false) h))
flag_read {E} gives text None h only = go (is_true text) refl
  where
    refused : ParsesBool {E = E} text (Err h.0)
    refused = only text (Err h.0) h.1

    go : (b : Bool) → is_true text ≡ b → false ≡ is_true text
    go false is = sym is
    go true is = absurd (refused.0 ((bytes_eq-Decides text (codes "true")).0 is))

-- the same of the matches, which may have no text
pub flag_in_matches : (E : Type 0) (text : Option Text) (read : Option Bool) → (text ≡ None → read ≡ None) → ((t : Text) → text ≡ Some t → ReadsOne {E = E} ParsesBool t read)
    → unwrap_or read false ≡ option_map_or is_true text false
flag_in_matches E None read none some = ap (λ (o : Option Bool). unwrap_or o false) (none refl)
flag_in_matches E (Some t) read none some = flag_read ParsesBool t read (some t refl) (λ u r g. g)
