-- It stays the same session at the table.
use Rattle.std.proofs.Common.{◌≡◌}
use Rattle.fkv_threading.proofs.sessions.play_calls.Given as goal

abbrev pub invariant-loop-before : goal.invariant-loop-before
invariant-loop-before g l = l.at ≡ l.fn.player
