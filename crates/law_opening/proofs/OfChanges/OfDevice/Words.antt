-- What is read back of the three words of a record.
use Rattle.std.proofs.Common.{◌≡◌, ◌≢◌, ◌∙◌, ℕ, ◌^◌, ◌%◌, ◌/◌, refl, sym, ap, subst, arith, Bool, true, false, [], ◌∷◌}
use Rattle.std.specs.Prelude.{◌==◌, ◌&&◌, not, if◌then◌else◌, Option, Some, None}
use Rattle.std.proofs.lemmas.Bool.Decides.{nat_tests}
use Rattle.fkv_base.specs.declared.numbers.Addr.{Addr}
use Rattle.fkv_base.specs.declared.numbers.Version.{Version}
use Rattle.law_refine.specs.Below.fkv_flush.Mail.{Mail}
use Rattle.law_refine.specs.Below.fkv_flush.GuardMail.{GivesWords}
use Rattle.fkv_map.specs.Map.{absent_word}
use Rattle.law_refine.specs.Below.fkv_ops.HeaderSaid.TheVariants.{Says, Spoiled}
use Rattle.law_refine.specs.Below.fkv_ops.HeaderWords.{header_said, version_in, previous_in}
use Rattle.law_refine.specs.Below.fkv_ops.Values.{value_of}
use Rattle.fkv_record.specs.Numbers.{spelled}
use Rattle.law_refine.specs.Mail.MailEvents.{record_read}
use Rattle.law_refine.specs.Mail.Servers.{record_of}
use Rattle.fkv_map.specs.Fits.{NumberFits}
use Rattle.law_opening.specs.Changes.Fits.{ValueFits}

-- ---- a word of a record that fits
pub header_fits : (word : ℕ) (previous : Addr) (version : Version) → header_said word ≡ Says previous version → NumberFits word
unfolding header_said
header_fits word previous version says = by_tests (not (version_in word == 0)) (word / 2 ^ 61 % 2 == 0) (word / 2 ^ 63 == 0) refl says
  where
    by_tests : (a b c : Bool) → (word / 2 ^ 63 == 0) ≡ c → (if a && b && c then Says (record { 0 = previous_in word }) (record { 0 = version_in word }) else Spoiled) ≡ Says previous version → NumberFits word
    by_tests true true true e its = let low : word / 2 ^ 63 ≡ 0 = grind (arith, nat_tests, e) in omega (arith, low)
    by_tests true true false e its = absurd (spoiled its)
      where
        spoiled : Spoiled ≡ Says previous version → ⊥
        spoiled e = cc
    by_tests true false c e its = absurd (spoiled its)
      where
        spoiled : Spoiled ≡ Says previous version → ⊥
        spoiled e = cc
    by_tests false b c e its = absurd (spoiled its)
      where
        spoiled : Spoiled ≡ Says previous version → ⊥
        spoiled e = cc

-- no record has header 0
pub has_header : (word : ℕ) (previous : Addr) (version : Version) → header_said word ≡ Says previous version → word ≢ 0
unfolding header_said
has_header word previous version says = λ none. spoiled (sym (ap header_said none) ∙ says)
  where
    spoiled : header_said 0 ≡ Says previous version → ⊥
    spoiled e = cc

-- so where it is that the record is gone, nothing is said
pub gone_says : (header : ℕ) → header ≡ 0 → header_said header ≡ Spoiled
unfolding header_said
gone_says header none = ap header_said none

pub value_fits : (word : ℕ) (value : Option ℕ) → value_of word ≡ value → ValueFits value → NumberFits word
value_fits word value e fits = by_test (word == absent_word) refl (subst ValueFits (sym e) fits)
  where
    by_test : (c : Bool) → (word == absent_word) ≡ c → ValueFits (if c then None else Some word) → NumberFits word
    by_test true e its = let same : word ≡ absent_word = grind (arith, nat_tests, e) in omega (arith, same)
    by_test false e its = its

-- ---- is read back
abbrev pub WordsLaw : Type 0
WordsLaw = (header key value : ℕ) → GivesWords header key value

pub read_back : WordsLaw → (header key value : ℕ) → NumberFits header → NumberFits key → NumberFits value → record_read (spelled (header ∷ key ∷ value ∷ [])) ≡ record_of header key value
read_back law header key value one two three = ap (λ (mail : Mail). record_of mail.header mail.key mail.value) (law header key value one two three)
