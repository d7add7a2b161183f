-- It stays the keeper at this table.
use Rattle.std.proofs.Common.{◌≡◌}
use Rattle.fkv_threading.proofs.keepers.turn_until_ended.Given as goal

abbrev pub invariant-loop : goal.invariant-loop
invariant-loop g l = l.keeping ≡ l.fn.keeping
