-- Bits and phases as numbers.
use Rattle.std.proofs.Common.{◌≡◌, ℕ, zero, suc, ◌<◌, Bool, true, false, refl, arith}
use Rattle.std.specs.Prelude.{nat_eq}
use Rattle.fkv_base.specs.declared.phases.Phase.{Phase}
use Rattle.fkv_base.specs.declared.phases.Phase.TheVariants.{Rest, Prepare, InProgress, WaitPending, WaitFlush}
use Rattle.fkv_words.specs.Fields.{bit_of}
use Rattle.fkv_words.specs.Phases.{phase_number}

-- the test of a bit, and the number that it stands for
pub bit_is : (n : ℕ) → n < 2 → bit_of (nat_eq n 1) ≡ n
bit_is zero h = refl
bit_is (suc zero) h = refl
bit_is (suc (suc n)) h = absurd (omega arith)

-- a bit is one or the other
pub same_bit : (b c : Bool) → bit_of b ≡ bit_of c → b ≡ c
same_bit true true e = refl
same_bit true false e = absurd (omega arith)
same_bit false true e = absurd (omega arith)
same_bit false false e = refl

pub bit_small : (b : Bool) → bit_of b < 2
bit_small true = omega arith
bit_small false = omega arith

pub same_phase : (p q : Phase) → phase_number p ≡ phase_number q → p ≡ q
same_phase Rest Rest e = refl
same_phase Prepare Prepare e = refl
same_phase InProgress InProgress e = refl
same_phase WaitPending WaitPending e = refl
same_phase WaitFlush WaitFlush e = refl
same_phase p q e = absurd (omega arith)

-- there are five of them
pub few_phases : (its : Phase) → phase_number its < 5
few_phases Rest = omega arith
few_phases Prepare = omega arith
few_phases InProgress = omega arith
few_phases WaitPending = omega arith
few_phases WaitFlush = omega arith
