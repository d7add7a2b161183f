-- So far the front is laid, and tells its keys.
use Rattle.std.proofs.Common.{◌≡◌, ◌<◌, ◌++◌, ℕ, map, take, drop, get_or}
use Rattle.fkv_base.specs.declared.numbers.Key.{Key}
use Rattle.fkv_base.specs.declared.numbers.Value.{Value}
use Rattle.fkv_renewing.specs.Laid.{laid_pair}
use Rattle.fkv_renewing.proofs.Lying.{IsToldBack}
use Rattle.fkv_renewing.proofs.laid.lay_each.Given as goal

abbrev pub invariant-loop-i : goal.invariant-loop-i
invariant-loop-i l = (l.pairs ≡ map (laid_pair l.keys) (take l.i l.fn.pairs) ++ drop l.i l.fn.pairs) × ((k : ℕ) (pair : Key × Value) → k < l.i → IsToldBack l.keys (get_or l.fn.pairs k pair))
