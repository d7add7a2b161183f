-- The words and the slots of owned actions.
use Rattle.std.specs.Prelude.{ℕ, List, slice_get, Option, Some, None}
use Rattle.fkv_plane.specs.declared.actions.Action.{Action}

pub record Plane : Type 0 where
  pub words : List ℕ
  -- each slot's action while it is at home
  pub actions : List (Option Action)

abbrev pub found_action : Option (Option Action) → Option Action
found_action None = None
found_action (Some action) = action

-- the action at home in a slot
abbrev pub action_at : List (Option Action) → ℕ → Option Action
action_at actions slot = found_action (slice_get actions slot)

abbrev pub displaced : Option (Option Action) → Action → Option Action
displaced None action = Some action
displaced (Some before) action = before

-- what comes back when an action is put into a slot: what the slot had, or the action where there is no such slot
abbrev pub put_back : List (Option Action) → ℕ → Action → Option Action
put_back actions slot action = displaced (slice_get actions slot) action
