-- It stays the keeper at this table.
use Rattle.std.proofs.Common.{◌≡◌}
use Rattle.fkv_threading.proofs.keepers.begin.Given as goal

abbrev pub invariant-loop : goal.invariant-loop
invariant-loop g l = l.keeping ≡ l.fn.keeping
