-- Where a session stands by a line that was made for one call of it.
use Rattle.std.specs.Prelude.{ℕ, List, Option, Some, None}
use Rattle.fkv_map.specs.declared.operations.Call.{Call}
use Rattle.fkv_session.specs.declared.answers.Told.TheVariants.{Slept}
use Rattle.fkv_session.specs.declared.sessions.Sitting.TheVariants.{Idle}
use Rattle.fkv_session.specs.Sessions.{SessionState, Sitter}
use Rattle.fkv_straight.specs.Standing.{begins, replayed}

-- the session between two calls
abbrev pub resting : SessionState → SessionState
resting s = record s { step = Idle Slept }

-- it rests until a call is begun, and has then come as far as the replies have led it
unfoldable pub standing : Sitter → Option Call → List ℕ → SessionState
standing m None told = resting m.state
standing m (Some call) told = replayed m.seat (begins m.seat (resting m.state) call) told
