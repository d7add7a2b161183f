-- What the world settles in the same step as a word's ask: an action goes into its slot or comes out of it, and the machine goes on at once.
use Rattle.std.specs.Prelude.{ℕ, Bool, true, false, List, slice_set, Option, Some, None}
use Rattle.fkv_plane.specs.declared.actions.Action.{Action}
use Rattle.fkv_plane.specs.declared.asks.Ask.{Ask}
use Rattle.fkv_plane.specs.declared.asks.Ask.TheVariants.{Put, Take}
use Rattle.fkv_plane.specs.Plane.{action_at}
use Rattle.fkv_maintain.specs.Maintaining.{MaintainState, maintain_given}

-- a machine that has come to ask this; by its own next step, and by what it does with an action
abbrev pub settled : {S A : Type 0} → (S → ℕ → S) → (S → Option Action → S) → List (Option Action) → S → Ask A → S
settled next gets actions s (Put slot action) = next s 0
settled next gets actions s (Take slot) = gets s (action_at actions slot)
settled next gets actions s ask = s

abbrev pub actions_settled : {A : Type 0} → List (Option Action) → Ask A → List (Option Action)
actions_settled actions (Put slot action) = slice_set actions slot (Some action)
actions_settled actions (Take slot) = slice_set actions slot None
actions_settled actions ask = actions

-- an ask of a slot
abbrev pub is_of_slot : {A : Type 0} → Ask A → Bool
is_of_slot (Put slot action) = true
is_of_slot (Take slot) = true
is_of_slot ask = false

-- a machine that takes no action
abbrev pub takes_none : {S : Type 0} → S → Option Action → S
takes_none s action = s

-- what a turn does with the action of a slot that it has claimed, if the slot has one
abbrev pub maintain_gets : MaintainState → Option Action → MaintainState
maintain_gets s None = s
maintain_gets s (Some action) = maintain_given s action
