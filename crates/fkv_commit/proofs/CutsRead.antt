-- What a cut word says, where one is spelled.
use Rattle.std.proofs.Common.{◌≡◌, ◌^◌, ◌%◌, ◌/◌, arith, refl, Bool, true, false}
use Rattle.std.specs.Prelude.{if◌then◌else◌}
use Rattle.std.proofs.lemmas.Bool.Decides.{nat_tests}
use Rattle.fkv_words.specs.declared.cut_word.CutWord.{CutWord}
use Rattle.fkv_words.specs.Layout.{cut_word}
use Rattle.fkv_commit.specs.Cuts.{is_cut, serial_said, version_said}
use Rattle.fkv_commit.specs.Points.{CutsAreRead, OthersSayNothing, CutsAreByParity}

small : (its : CutWord) → is_cut (cut_word its) ≡ true
small its =
    let serial = its.serial_fits in
    let version = its.version_fits in
    let h : cut_word its / 2 ^ 61 ≡ 0 = omega (arith, serial, version) in
    grind (arith, nat_tests, h)

pub serial_read : (its : CutWord) → serial_said (cut_word its) ≡ its.serial.0
unfolding serial_said
serial_read its =
    let serial = its.serial_fits in
    let cut = small its in
    rw cut (omega (arith, serial))

pub version_read : (its : CutWord) → version_said (cut_word its) ≡ its.version.0
unfolding version_said
version_read its =
    let serial = its.serial_fits in
    let cut = small its in
    rw cut (omega (arith, serial))

pub read : CutsAreRead
read its = (serial_read its, version_read its)

-- a word that no cut has
pub others : OthersSayNothing
unfolding serial_said version_said
others word none = tested (is_cut word) refl
  where
    tested : (b : Bool) → is_cut word ≡ b → ((if b then word % 2 ^ 48 else 0) ≡ 0) × ((if b then word / 2 ^ 48 else 0) ≡ 0)
    tested true e =
        let low : word / 2 ^ 61 ≡ 0 = grind (arith, nat_tests, e) in
        let its : CutWord = record { serial = record { 0 = word % 2 ^ 48 }; version = record { 0 = word / 2 ^ 48 }; serial_fits = omega arith; version_fits = omega (arith, low) } in
        absurd (none its (omega arith))
    tested false e = (refl, refl)

-- which of the two words is met first
pub by_parity : CutsAreByParity
by_parity number session word = (λ even. rw even (refl, refl), λ odd. rw odd (refl, refl))
