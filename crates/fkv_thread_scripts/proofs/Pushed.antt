-- What a session without a point or a log adds to the operations.
use Rattle.std.proofs.Common.{◌≡◌, ◌≤◌, ◌++◌, ℕ, Bool, false, List, [], append-nil, arith, length, sym}
use Rattle.std.specs.Prelude.{nat_lt, Option, Some, None, slice_get}
use Rattle.std.proofs.lemmas.Bool.Decides.{nat_tests}
use Rattle.std.proofs.lemmas.Option.{slice_get_past}
use Rattle.fkv_base.specs.declared.numbers.Serial.{Serial}
use Rattle.fkv_map.specs.declared.operations.Op.{Op}
use Rattle.fkv_thread_scripts.specs.Keys.{ops_of}
use Rattle.fkv_thread_scripts.specs.declared.logs.Log.{Log}

past : {X : Type 0} (xs : List X) (n : ℕ) → false ≡ nat_lt n (length xs) → length xs ≤ n
past xs n none = grind (arith, nat_tests, sym none)

pub without_point : (ops : List Op) (points : List Serial) (logs : List Log) (n : ℕ) → false ≡ nat_lt n (length points) → ops ≡ ops ++ ops_of (slice_get points n) (slice_get logs n)
without_point ops points logs n none = rw (slice_get_past points n (past points n none)) (by_log (slice_get logs n))
  where
    by_log : (log : Option Log) → ops ≡ ops ++ ops_of None log
    by_log None = sym (append-nil ops)
    by_log (Some log) = sym (append-nil ops)

pub without_log : (ops : List Op) (points : List Serial) (logs : List Log) (n : ℕ) → false ≡ nat_lt n (length logs) → ops ≡ ops ++ ops_of (slice_get points n) (slice_get logs n)
without_log ops points logs n none = rw (slice_get_past logs n (past logs n none)) (by_point (slice_get points n))
  where
    by_point : (point : Option Serial) → ops ≡ ops ++ ops_of point None
    by_point None = sym (append-nil ops)
    by_point (Some point) = sym (append-nil ops)
