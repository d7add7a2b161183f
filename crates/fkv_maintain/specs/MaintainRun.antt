-- A run of what every turn does: replies, actions and calls of the device, in any order.
use Rattle.std.specs.Prelude.{ℕ, List, [], ◌∷◌, Bool}
use Rattle.fkv_base.specs.declared.shapes.Shape.{Shape}
use Rattle.fkv_plane.specs.declared.actions.Action.{Action}
use Rattle.fkv_plane.specs.declared.places.Places.{Places}
use Rattle.fkv_maintain.specs.Maintaining.{MaintainState, maintain_begun, maintain_serving, maintain_next, maintain_given, maintain_called}

-- what may happen next
pub data MaintainEvent : Type 0 where
  -- its ask is replied to
  Replies : ℕ → MaintainEvent
  -- it gets the action of a drain slot
  Gets : Action → MaintainEvent
  -- it calls the device: whether the call succeeded, and what it read
  Calls : Bool → List ℕ → MaintainEvent

unfoldable pub maintain_happens : Shape → Places → MaintainState → MaintainEvent → MaintainState
maintain_happens shape p s (Replies reply) = maintain_next shape p s reply
maintain_happens shape p s (Gets action) = maintain_given s action
maintain_happens shape p s (Calls done bytes) = maintain_called shape p s done bytes

-- a turn from its begin on, the newest event first
unfoldable pub maintain_run : Shape → Places → MaintainState → List MaintainEvent → MaintainState
maintain_run shape p s [] = maintain_begun s
maintain_run shape p s (event ∷ before) = maintain_happens shape p (maintain_run shape p s before) event

-- the same of a turn that only serves
unfoldable pub serving_run : Shape → Places → MaintainState → List MaintainEvent → MaintainState
serving_run shape p s [] = maintain_serving s
serving_run shape p s (event ∷ before) = maintain_happens shape p (serving_run shape p s before) event
