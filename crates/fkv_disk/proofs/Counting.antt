-- How the count of calls goes on from call to call.
use Rattle.std.proofs.Common.{◌≡◌, ◌⊎◌, inl, inr, ℕ, zero, suc, ◌+◌, ◌-◌, ◌<◌, ◌≤◌, Bool, true, refl, sym, ◌∙◌, ap, arith}
use Rattle.std.specs.Prelude.{Result, IsErr, nat_le}
use Rattle.std.proofs.Math.Path.{fun_ext}
use Rattle.std.proofs.lemmas.Bool.Decides.{nat_tests}
use Rattle.fkv_base.specs.declared.faults.Fault.{Fault}
use Rattle.fkv_disk.specs.Device.{after, MakesCalls}

-- what is said n calls later
pub after_is : (n : ℕ) (refuses : ℕ → Bool) (i : ℕ) → after n refuses i ≡ refuses (i + n)
after_is zero refuses i = ap refuses (let sum : i ≡ i + 0 = omega arith in sum)
after_is (suc n) refuses i = after_is n (λ j. refuses (j + 1)) i ∙ ap refuses (let sum : (i + n) + 1 ≡ i + suc n = omega arith in sum)

-- where no call is made
pub no_call : {T : Type 0} (refuses : ℕ → Bool) (result : Result T Fault) → MakesCalls 0 refuses refuses result
no_call refuses result = record { counted = refl; refused = λ i below is. absurd (omega arith) }

-- calls after calls, where a refusal of the first ones is one of all
pub more_calls : {T U : Type 0} (n m : ℕ) (before mid now : ℕ → Bool) (first : Result T Fault) (all : Result U Fault) → MakesCalls n before mid first → (IsErr first → IsErr all) → MakesCalls m mid now all → MakesCalls (n + m) before now all
more_calls n m before mid now first all early passes late = record { counted = late.counted ∙ fun_ext sums; refused = λ i below is. refused_at i below is (place i) }
  where
    at_mid : (i : ℕ) → mid i ≡ before (i + n)
    at_mid i = ap (λ (refuses : ℕ → Bool). refuses i) early.counted ∙ after_is n before i

    sums : (i : ℕ) → after m mid i ≡ after (n + m) before i
    sums i = after_is m mid i ∙ at_mid (i + m) ∙ ap before (let sum : (i + m) + n ≡ i + (n + m) = omega arith in sum) ∙ sym (after_is (n + m) before i)

    place : (i : ℕ) → (i < n) ⊎ (n ≤ i)
    place i = grind arith

    refused_at : (i : ℕ) → i < n + m → before i ≡ true → (i < n) ⊎ (n ≤ i) → IsErr all
    refused_at i below is (inl first_ones) = passes (early.refused i first_ones is)
    refused_at i below is (inr later_ones) = late.refused (i - n) (omega arith) (at_mid (i - n) ∙ ap before (let sum : (i - n) + n ≡ i = omega arith in sum) ∙ is)

-- where k calls pass and the others are refused, k - n pass after n
pub fewer_pass : (n k : ℕ) → after n (λ i. nat_le k i) ≡ (λ i. nat_le (k - n) i)
fewer_pass n k = fun_ext (λ i. after_is n (λ j. nat_le k j) i ∙ step i)
  where
    step : (i : ℕ) → nat_le k (i + n) ≡ nat_le (k - n) i
    step i = grind (arith, nat_tests)
