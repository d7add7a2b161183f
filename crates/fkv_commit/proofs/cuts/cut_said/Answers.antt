-- What a cut word says is what is read where one is spelled.
use Rattle.std.proofs.Common.{◌≡◌, ◌^◌, ◌%◌, ◌/◌, arith, refl, sym, Bool, true, false}
use Rattle.std.specs.Prelude.{if◌then◌else◌, Some}
use Rattle.std.proofs.lemmas.Bool.Decides.{nat_tests}
use Rattle.fkv_words.specs.declared.cut_word.CutWord.{CutWord}
use Rattle.fkv_words.specs.Layout.{cut_word}
use Rattle.fkv_commit.specs.Cuts.{is_cut, serial_said, version_said}
use Rattle.fkv_commit.proofs.CutsRead.{serial_read, version_read}
use Rattle.fkv_commit.proofs.cuts.cut_said.Goals as goal

pub returns-in-Some-clause-serial : goal.returns-in-Some-clause-serial
returns-in-Some-clause-serial c =
    let its = c.in-Some.its in
    let is : cut_word its ≡ c.args.word = (c.unpack.ensures its).0 c.in-Some.is in
    sym (rw (← is) (serial_read its))

pub returns-in-Some-clause-version : goal.returns-in-Some-clause-version
returns-in-Some-clause-version c =
    let its = c.in-Some.its in
    let is : cut_word its ≡ c.args.word = (c.unpack.ensures its).0 c.in-Some.is in
    sym (rw (← is) (version_read its))

pub returns-in-None-clause-serial : goal.returns-in-None-clause-serial
unfolding serial_said
returns-in-None-clause-serial c = tested (is_cut c.args.word) refl
  where
    tested : (b : Bool) → is_cut c.args.word ≡ b → 0 ≡ (if b then c.args.word % 2 ^ 48 else 0)
    tested true e =
        let small : c.args.word / 2 ^ 61 ≡ 0 = grind (arith, nat_tests, e) in
        let its : CutWord = record { serial = record { 0 = c.args.word % 2 ^ 48 }; version = record { 0 = c.args.word / 2 ^ 48 }; serial_fits = omega arith; version_fits = omega (arith, small) } in
        let some : c.unpack.result ≡ Some its = (c.unpack.ensures its).1 (omega arith) in
        let none = c.in-None.is in
        cc
    tested false e = refl

pub returns-in-None-clause-version : goal.returns-in-None-clause-version
unfolding version_said
returns-in-None-clause-version c = tested (is_cut c.args.word) refl
  where
    tested : (b : Bool) → is_cut c.args.word ≡ b → 0 ≡ (if b then c.args.word / 2 ^ 48 else 0)
    tested true e =
        let small : c.args.word / 2 ^ 61 ≡ 0 = grind (arith, nat_tests, e) in
        let its : CutWord = record { serial = record { 0 = c.args.word % 2 ^ 48 }; version = record { 0 = c.args.word / 2 ^ 48 }; serial_fits = omega arith; version_fits = omega (arith, small) } in
        let some : c.unpack.result ≡ Some its = (c.unpack.ensures its).1 (omega arith) in
        let none = c.in-None.is in
        cc
    tested false e = refl
