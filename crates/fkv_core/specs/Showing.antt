-- What a world shows beside the answers.
use Rattle.std.specs.Prelude.{ℕ, Option, Some, None, slice_get}
use Rattle.fkv_map.specs.declared.history.HistoryEntry.{HistoryEntry}
use Rattle.fkv_session.specs.Sessions.{SessionState}
use Rattle.fkv_world.specs.World.{Now}

-- the update whose effect the last ask of a session made, if there is such a session and it made one
abbrev pub effect_at : Option SessionState → Option HistoryEntry
effect_at None = None
effect_at (Some s) = s.effect

abbrev pub effect_of : Now → ℕ → Option HistoryEntry
effect_of n number = effect_at (slice_get n.sessions number)
