-- It stays the same session at the table.
use Rattle.std.proofs.Common.{◌≡◌}
use Rattle.fkv_threading.proofs.sessions.catch_up_whole.Given as goal

abbrev pub invariant-loop : goal.invariant-loop
invariant-loop g l = l.at ≡ l.fn.player
