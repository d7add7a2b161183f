use Rattle.std.proofs.Common.{ℕ, ◌≡◌, ◌≤◌, ◌<◌}
use Rattle.fkv_renewing.specs.Room.{point_at}
use Rattle.fkv_renewing.proofs.slots.has_sessions.Given as goal

-- no session beyond the shape's has a point so far
abbrev pub invariant-loop-session : goal.invariant-loop-session
invariant-loop-session l = (session : ℕ) → l.fn.shape.sessions ≤ session → session < l.session → point_at l.points session ≡ 0
