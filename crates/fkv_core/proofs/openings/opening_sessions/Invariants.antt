use Rattle.std.proofs.Common.{◌≡◌, length}
use Rattle.fkv_core.specs.Openings.{AreOpeningSitters}
use Rattle.fkv_core.proofs.openings.opening_sessions.Given as goal

abbrev pub invariant-loop-number : goal.invariant-loop-number
invariant-loop-number l = (length l.sessions.items ≡ l.number) × AreOpeningSitters l.opened l.sessions.items
