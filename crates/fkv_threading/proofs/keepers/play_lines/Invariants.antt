-- It stays the keeper at this table.
use Rattle.std.proofs.Common.{◌≡◌}
use Rattle.fkv_threading.proofs.keepers.play_lines.Given as goal

abbrev pub invariant-loop-line : goal.invariant-loop-line
invariant-loop-line g l = l.keeping ≡ l.fn.keeping
