-- What a phase word says is what is read where one is spelled.
use Rattle.std.proofs.Common.{◌≡◌, ℕ, ◌<◌, ◌≤◌, ◌^◌, ◌%◌, ◌/◌, arith, refl, sym, subst, Bool, true, false}
use Rattle.std.specs.Prelude.{◌==◌, ◌&&◌, nat_le, if◌then◌else◌, Option, Some, None}
use Rattle.std.proofs.lemmas.Bool.Decides.{nat_tests}
use Rattle.fkv_base.specs.Limits.{last_version}
use Rattle.fkv_base.specs.declared.phases.Phase.{Phase}
use Rattle.fkv_base.specs.declared.phases.Phase.TheVariants as phase
use Rattle.fkv_words.specs.declared.wide_phase.WidePhase.{WidePhase}
use Rattle.fkv_words.specs.Phases.{phase_number}
use Rattle.fkv_words.specs.Layout.{wide_word}
use Rattle.fkv_words.specs.declared.phase_words.PhaseSaid.TheVariants.{Says, Spoiled}
use Rattle.fkv_words.specs.PhaseWords.{phase_numbered, phase_with, phase_said, has_spare_bits, version_in}
use Rattle.fkv_words.proofs.Said.{spelled_says}
use Rattle.fkv_words.proofs.phase_words.phase_said.Goals as goal

-- the number of the phase that a number has
named_number : (n : ℕ) (its : Phase) → phase_numbered n ≡ Some its → phase_number its ≡ n
named_number n its is = tested (n == 0) (n == 1) (n == 2) (n == 3) (n == 4) refl refl refl refl refl is
  where
    tested : (a b d e f : Bool) → (n == 0) ≡ a → (n == 1) ≡ b → (n == 2) ≡ d → (n == 3) ≡ e → (n == 4) ≡ f
        → (if a then Some phase.Rest else if b then Some phase.Prepare else if d then Some phase.InProgress else if e then Some phase.WaitPending else if f then Some phase.WaitFlush else None) ≡ Some its → phase_number its ≡ n
    tested true b d e f ea eb ed ee ef is = (let h : phase.Rest ≡ its = cc in subst (λ x. phase_number x ≡ n) h (let m : n ≡ 0 = grind (arith, nat_tests, ea) in omega (arith, m)))
    tested false true d e f ea eb ed ee ef is = (let h : phase.Prepare ≡ its = cc in subst (λ x. phase_number x ≡ n) h (let m : n ≡ 1 = grind (arith, nat_tests, eb) in omega (arith, m)))
    tested false false true e f ea eb ed ee ef is = (let h : phase.InProgress ≡ its = cc in subst (λ x. phase_number x ≡ n) h (let m : n ≡ 2 = grind (arith, nat_tests, ed) in omega (arith, m)))
    tested false false false true f ea eb ed ee ef is = (let h : phase.WaitPending ≡ its = cc in subst (λ x. phase_number x ≡ n) h (let m : n ≡ 3 = grind (arith, nat_tests, ee) in omega (arith, m)))
    tested false false false false true ea eb ed ee ef is = (let h : phase.WaitFlush ≡ its = cc in subst (λ x. phase_number x ≡ n) h (let m : n ≡ 4 = grind (arith, nat_tests, ef) in omega (arith, m)))
    tested false false false false false ea eb ed ee ef is = cc

pub returns-in-Some : goal.returns-in-Some
returns-in-Some c =
    let its = c.in-Some.its in
    let is : wide_word its ≡ c.args.word = (c.unpack.ensures its).0 c.in-Some.is in
    let few = its.version_fits in
    sym (spelled_says c.args.word its.version.0 its.phase is its.some_version (omega (arith, few)))

pub returns-in-None : goal.returns-in-None
unfolding phase_said
returns-in-None c = tested (has_spare_bits word) refl
  where
    word : ℕ
    word = c.args.word

    versioned : (its : Phase) → phase_numbered (word / 2 ^ 16 % 2 ^ 3) ≡ Some its → word / 2 ^ 13 % 2 ^ 3 ≡ 0 → (a b : Bool) → nat_le 1 (version_in word) ≡ a → nat_le (version_in word) last_version ≡ b
        → Spoiled ≡ (if a && b then Says its (record { 0 = version_in word }) else Spoiled)
    versioned its named low false b ea eb = refl
    versioned its named low true false ea eb = refl
    versioned its named low true true ea eb =
        let some : 1 ≤ version_in word = grind (arith, nat_tests, ea) in
        let few : version_in word ≤ last_version = grind (arith, nat_tests, eb) in
        let n : phase_number its ≡ word / 2 ^ 16 % 2 ^ 3 = named_number (word / 2 ^ 16 % 2 ^ 3) its named in
        let w : WidePhase = record { version = record { 0 = version_in word }; phase = its; some_version = omega (arith, some); version_fits = omega (arith, few) } in
        let e : c.unpack.result ≡ Some w = (c.unpack.ensures w).1 (omega (arith, n, low)) in
        let none = c.in-None.is in
        cc

    numbered_so : (its : Option Phase) → phase_numbered (word / 2 ^ 16 % 2 ^ 3) ≡ its → word / 2 ^ 13 % 2 ^ 3 ≡ 0 → Spoiled ≡ phase_with its (version_in word)
    numbered_so None named low = refl
    numbered_so (Some its) named low = versioned its named low (nat_le 1 (version_in word)) (nat_le (version_in word) last_version) refl refl

    tested : (a : Bool) → has_spare_bits word ≡ a → Spoiled ≡ (if a then phase_with (phase_numbered (word / 2 ^ 16 % 2 ^ 3)) (version_in word) else Spoiled)
    tested true ea = numbered_so (phase_numbered (word / 2 ^ 16 % 2 ^ 3)) refl (grind (arith, nat_tests, ea))
    tested false ea = refl
