-- The serial that a session has given last.
use Rattle.std.specs.Prelude.{ℕ, Option, Some, None, slice_get}
use Rattle.law_refine.specs.Below.fkv_session.Sessions.{SessionState}
use Rattle.law_refine.specs.Below.fkv_world.World.{Now}

-- the last serial that a session has given
abbrev pub serial_of : Option SessionState → ℕ
serial_of None = 0
serial_of (Some s) = s.serial

abbrev pub serial_at : Now → ℕ → ℕ
serial_at n session = serial_of (slice_get n.sessions session)
