-- A sync and a read are two calls.
use Rattle.std.proofs.Common.{◌≡◌, ℕ, Bool, refl, sym, subst, arith}
use Rattle.std.specs.Prelude.{Result, Ok, Err, IsErr}
use Rattle.std.specs.Result.{IsErrAnd}
use Rattle.fkv_base.specs.declared.faults.Fault.{Fault}
use Rattle.fkv_base.specs.declared.faults.Fault.TheVariants.{Device}
use Rattle.fkv_disk.specs.Device.{MakesCalls}
use Rattle.fkv_disk.proofs.Shown.{more_calls}
use Rattle.fkv_newest.specs.Counted.{MakesTwoCalls}

-- calls that are told by another result
told_by : {T U : Type 0} (n : ℕ) (before now : ℕ → Bool) (first : Result T Fault) (all : Result U Fault) → (IsErr first → IsErr all) → MakesCalls n before now first → MakesCalls n before now all
told_by n before now first all to calls = record { counted = calls.counted; refused = λ i below is. to (calls.refused i below is) }

none_failed : {T V : Type 0} (x : T) (all : Result V Fault) → IsErr {T = T} {E = Fault} (Ok x) → IsErr all
none_failed x all failed = cc

no_failure : {T : Type 0} (x : T) → IsErr {T = T} {E = Fault} (Ok x) → ⊥
no_failure x failed = cc

two : {T U V : Type 0} (before mid now : ℕ → Bool) (x : T) (second : Result U Fault) (all : Result V Fault) → (IsErr second → IsErr all)
    → MakesCalls {T = T} 1 before mid (Ok x) → MakesCalls 1 mid now second → MakesTwoCalls before now all
two before mid now x second all passes early late = record {
  made = 2;
  some = omega arith;
  most = omega arith;
  both = λ off. refl;
  first = λ is. absurd (no_failure x (early.refused 0 (omega arith) is));
  counted = more_calls 1 1 before mid now (Ok x) all early (none_failed x all) (told_by 1 mid now second all passes late);
}

-- the first one failed
pub first_failed : {T V : Type 0} (before now : ℕ → Bool) (first : Result T Fault) (all : Result V Fault) → all ≡ Err Device → MakesCalls 1 before now first → MakesTwoCalls before now all
first_failed before now first all is calls = record {
  made = 1;
  some = omega arith;
  most = omega arith;
  both = λ off. absurd (off is);
  first = λ refused. (refl, is);
  counted = told_by 1 before now first all (λ failed. subst (λ r. IsErr r) (sym is) refl) calls;
}

-- what the answer to two calls that passed is told by
pub told_on : {T V : Type 0} (before now : ℕ → Bool) (x : T) (all : Result V Fault) → MakesTwoCalls {T = T} before now (Ok x) → MakesTwoCalls before now all
told_on before now x all calls = record {
  made = calls.made;
  some = calls.some;
  most = calls.most;
  both = λ off. calls.both (λ is. cc);
  first = λ refused. absurd (let is : ◌≡◌ {A = Result _ Fault} (Ok x) (Err Device) = (calls.first refused).1 in cc);
  counted = told_by calls.made before now (Ok x) all (none_failed x all) calls.counted;
}

-- both succeeded
pub two_passed : {T U V : Type 0} (before mid now : ℕ → Bool) (x : T) (y : U) (all : Result V Fault) → MakesCalls 1 before mid (Ok x) → MakesCalls 1 mid now (Ok y) → MakesTwoCalls before now all
two_passed before mid now x y all early late = two before mid now x (Ok y) all (none_failed y all) early late

failed_too : {T E : Type 0} (r : Result T E) (P : E → Type 0) → IsErrAnd r P → IsErr r
failed_too (Ok x) P is = absurd is
failed_too (Err e) P is = refl

-- the second failed
pub second_failed : {T U V : Type 0} (before mid now : ℕ → Bool) (x : T) (second : Result U Fault) (all : Result V Fault) (P : Fault → Type 0) → IsErrAnd all P
    → MakesCalls 1 before mid (Ok x) → MakesCalls 1 mid now second → MakesTwoCalls before now all
second_failed before mid now x second all P failed early late = two before mid now x second all (λ failed_here. failed_too all P failed) early late
