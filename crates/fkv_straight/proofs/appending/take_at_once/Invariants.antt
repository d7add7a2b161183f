use Rattle.std.proofs.Common.{◌≡◌}
use Rattle.fkv_straight.proofs.appending.take_at_once.Given as goal

-- no step was made
abbrev pub invariant-tries : goal.invariant-tries
invariant-tries g l = l.line ≡ l.fn.line
