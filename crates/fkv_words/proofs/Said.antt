-- What a phase word says, where the fields of the word are known.
use Rattle.std.proofs.Common.{◌≡◌, ℕ, ◌<◌, ◌≤◌, ◌^◌, ◌%◌, ◌/◌, arith, refl, ap, subst, ◌∙◌, Bool, true, false}
use Rattle.std.specs.Prelude.{◌==◌, nat_le, ◌&&◌, if◌then◌else◌, Option, Some, None}
use Rattle.std.proofs.lemmas.Bool.Decides.{nat_tests}
use Rattle.fkv_base.specs.Limits.{last_version}
use Rattle.fkv_base.specs.declared.numbers.Version.{Version}
use Rattle.fkv_base.specs.declared.phases.Phase.{Phase}
use Rattle.fkv_base.specs.declared.phases.Phase.TheVariants as phase
use Rattle.fkv_words.specs.Phases.{phase_number}
use Rattle.fkv_words.specs.Layout.{phase_spelled}
use Rattle.fkv_words.specs.declared.phase_words.PhaseSaid.TheVariants.{Says, Spoiled}
use Rattle.fkv_words.specs.PhaseWords.{phase_numbered, phase_with, phase_said, has_spare_bits, is_version, version_in}
use Rattle.fkv_words.proofs.Bits.{few_phases}

numbered : (its : Phase) → phase_numbered (phase_number its) ≡ Some its
numbered phase.Rest = refl
numbered phase.Prepare = refl
numbered phase.InProgress = refl
numbered phase.WaitPending = refl
numbered phase.WaitFlush = refl

-- a word that spells a phase and a version says them if there is such a version
pub spelled_as : (word version : ℕ) (its : Phase) → phase_spelled version (phase_number its) ≡ word → phase_said word ≡ (if is_version version then Says its (record { 0 = version }) else Spoiled)
unfolding phase_said
spelled_as word version its is =
    let small = few_phases its in
    let a : version_in word ≡ version = omega (arith, is, small) in
    let n : word / 2 ^ 16 % 2 ^ 3 ≡ phase_number its = omega (arith, is, small) in
    let low : (word / 2 ^ 13 % 2 ^ 3 == 0) ≡ true = (let h : word / 2 ^ 13 % 2 ^ 3 ≡ 0 = omega (arith, is, small) in grind (arith, nat_tests, h)) in
    rw (low, n, a, numbered its) refl

pub spelled_says : (word version : ℕ) (its : Phase) → phase_spelled version (phase_number its) ≡ word → 0 < version → version ≤ last_version → phase_said word ≡ Says its (record { 0 = version })
spelled_says word version its is some few =
    let there : is_version version ≡ true = (let a : nat_le 1 version ≡ true = grind (arith, nat_tests, some) in let b : nat_le version last_version ≡ true = grind (arith, nat_tests, few) in rw (a, b) refl) in
    spelled_as word version its is ∙ ap (λ (b : Bool). if b then Says its (record { 0 = version }) else Spoiled) there

-- the version that a word says is one that there is
pub said_version : (word : ℕ) (its : Phase) (version : Version) → phase_said word ≡ Says its version → (1 ≤ version.0) × (version.0 ≤ last_version)
unfolding phase_said
said_version word its version is = by_bits (has_spare_bits word) is
  where
    by_version : (a b : Bool) (other : Phase) → nat_le 1 (version_in word) ≡ a → nat_le (version_in word) last_version ≡ b
        → (if a && b then Says other (record { 0 = version_in word }) else Spoiled) ≡ Says its version → (1 ≤ version.0) × (version.0 ≤ last_version)
    by_version true true other some few e =
        let same : version_in word ≡ version.0 = (let whole : record { 0 = version_in word } ≡ version = cc in ap (λ (v : Version). v.0) whole) in
        subst (λ (n : ℕ). (1 ≤ n) × (n ≤ last_version)) same (grind (arith, nat_tests, some), grind (arith, nat_tests, few))
    by_version true false other some few e = cc
    by_version false b other some few e = cc

    by_phase : (found : Option Phase) → phase_with found (version_in word) ≡ Says its version → (1 ≤ version.0) × (version.0 ≤ last_version)
    by_phase None e = cc
    by_phase (Some other) e = by_version (nat_le 1 (version_in word)) (nat_le (version_in word) last_version) other refl refl e

    by_bits : (b : Bool) → (if b then phase_with (phase_numbered (word / 2 ^ 16 % 2 ^ 3)) (version_in word) else Spoiled) ≡ Says its version → (1 ≤ version.0) × (version.0 ≤ last_version)
    by_bits true e = by_phase (phase_numbered (word / 2 ^ 16 % 2 ^ 3)) e
    by_bits false e = cc
