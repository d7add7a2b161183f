-- The events of a table's list, as events of the engine's world. None is a crash, so no life in a table is over.
use Rattle.std.specs.Prelude.{ℕ, Bool, true, ◌&&◌, nat_lt, ◌^◌, Option, Some, None}
use Rattle.fkv_map.specs.declared.operations.Call.TheVariants as call
use Rattle.fkv_map.specs.declared.operations.Op.{Op}
use Rattle.fkv_map.specs.declared.operations.Op.TheVariants.{Upsert, Delete, Add, Max, Read, Merge}
use Rattle.law_world.specs.Below.fkv_world.World.{Event, Calls, Moves, Commits, Turns, KeeperMoves}
use Rattle.fkv_table.specs.declared.happenings.Happening.{Happening}
use Rattle.fkv_table.specs.declared.happenings.Happening.TheVariants as happening

abbrev pub event_of : Happening → Event
event_of (happening.Calls session call) = Calls session call
event_of (happening.Moves session) = Moves session
event_of (happening.Commits kind) = Commits kind
event_of happening.Turns = Turns
event_of (happening.KeeperMoves granted done) = KeeperMoves granted done

-- whose it is: the session's of this number, or the keeper's
abbrev pub actor_of : Happening → Option ℕ
actor_of (happening.Calls session call) = Some session
actor_of (happening.Moves session) = Some session
actor_of (happening.Commits kind) = None
actor_of happening.Turns = None
actor_of (happening.KeeperMoves granted done) = None

-- whether it is a number of 64 bits
abbrev pub is_word : ℕ → Bool
is_word n = nat_lt n (2 ^ 64)

-- whether the numbers of an operation are
abbrev pub op_fits : Op → Bool
op_fits (Upsert key value) = is_word key.0 && is_word value.0
op_fits (Delete key) = is_word key.0
op_fits (Add key n) = is_word key.0 && is_word n
op_fits (Max key n) = is_word key.0 && is_word n
op_fits (Read key) = is_word key.0
op_fits (Merge key which n) = is_word key.0 && is_word n

-- Whether an event may stand in a table's list: the numbers of a call that it begins are below 2^64, as those of each operation that a thread can ask for.
abbrev pub may_stand : Happening → Bool
may_stand (happening.Calls session (call.Op op)) = op_fits op
may_stand event = true
