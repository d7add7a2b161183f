-- Two calls, and two, and two more.
use Rattle.std.proofs.Common.{ℕ, Bool, ◌+◌}
use Rattle.std.specs.Prelude.{Result, Ok, Err, IsErr, OnOk}
use Rattle.fkv_base.specs.declared.faults.Fault.{Fault}
use Rattle.fkv_disk.specs.Device.{MakesCalls}
use Rattle.fkv_disk.proofs.Shown.{more_calls}

none_failed : {T V : Type 0} (x : T) (all : Result V Fault) → IsErr {T = T} {E = Fault} (Ok x) → IsErr all
none_failed x all failed = cc

-- calls that passed are told by another answer
pub told_by : {T V : Type 0} (n : ℕ) (before now : ℕ → Bool) (x : T) (y : V) → MakesCalls {T = T} n before now (Ok x) → MakesCalls {T = V} n before now (Ok y)
told_by n before now x y calls = record { counted = calls.counted; refused = λ i below is. none_failed x (Ok y) (calls.refused i below is) }

-- calls that passed, behind others
pub passed_on : {T U V : Type 0} (n m : ℕ) (before mid now : ℕ → Bool) (x : T) (y : U) (z : V) → MakesCalls {T = T} n before mid (Ok x) → MakesCalls {T = U} m mid now (Ok y) → MakesCalls {T = V} (n + m) before now (Ok z)
passed_on n m before mid now x y z early late = more_calls n m before mid now (Ok x) (Ok z) early (none_failed x (Ok z)) (told_by m mid now y z late)

-- and where the others may not have passed
pub passed_at_last : {T U : Type 0} (n m : ℕ) (before mid now : ℕ → Bool) (x : T) (last : Result U Fault) → MakesCalls {T = T} n before mid (Ok x) → OnOk last (MakesCalls {T = U} m mid now last) → OnOk last (MakesCalls {T = U} (n + m) before now last)
passed_at_last n m before mid now x (Ok y) early late = passed_on n m before mid now x y y early late
passed_at_last n m before mid now x (Err e) early late = tt
