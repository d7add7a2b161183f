-- The engine's world as the table shows it.
use Rattle.std.specs.Prelude.{ℕ, List}
use Rattle.std.specs.declared.snapshot.Snapshot.{Snapshot}
use Rattle.fkv_base.specs.Limits.{drain_slots}
use Rattle.fkv_plane.specs.declared.actions.Action.{Action}
use Rattle.law_world.specs.Below.fkv_world.Actors.{slot_named}
use Rattle.law_world.specs.Below.fkv_world.Runs.{World, happens}
use Rattle.fkv_core.specs.Openings.{beginning}
use Rattle.fkv_core.specs.Worlds.{WorldModel}
use Rattle.fkv_seats.specs.Rule.{Plane}
use Rattle.fkv_table.specs.declared.happenings.Happening.{Happening}
use Rattle.fkv_table.specs.Events.{actor_of, event_of, may_stand}
use Rattle.fkv_table.specs.Positions.{laid}

-- the world of a store as it was opened, over a device that shows these bytes
abbrev pub opening_of : {D : Type 0} → (D → List ℕ) → Snapshot (WorldModel D) → World
opening_of seen key = beginning key.value.now (seen key.value.device)

-- its words at their positions, its actions, what each event moves, and which events may stand in the list
abbrev pub plane : {K : Type 0} → (K → World) → Plane World Happening Action K
plane at = record {
  opening = at;
  happens = λ w its. happens w (event_of its);
  words = λ w. laid w.now.words;
  actions = λ w. w.now.actions;
  actor = actor_of;
  names = λ w its. slot_named w.now (event_of its);
  slots = drain_slots;
  allowed = may_stand;
}
