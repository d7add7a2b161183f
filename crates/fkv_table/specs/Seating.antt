-- Sitting down at a desk of the table, and getting up from it.
use Rattle.std.specs.Prelude.{◌≡◌, ◌<◌, ℕ, false, ◌∷◌, Some}
use Rattle.atomic_table.specs.Seated.{TableId}
use Rattle.atomic_table.specs.Table.{Me, Step, rest}
use Rattle.fkv_base.specs.Limits.{drain_slots}
use Rattle.law_world.specs.Below.fkv_world.Runs.{World}
use Rattle.fkv_seats.specs.Rule.{GotUp, SatDown, desk_of, desk_slot}
use Rattle.fkv_table.specs.Desks.{Slot, Knows}
use Rattle.fkv_table.specs.Planes.{plane}

-- A seat has a desk at this table, and isn't at it.
abbrev pub MaySit : {K : Type 0} → TableId → Me Slot (Knows K) → Type 0
MaySit table me = (number : ℕ) × (desk_of me.0.role ≡ Some number) × (me.0.desk ≡ false) × (desk_slot drain_slots number < table.slots)

-- The slot that a seat has taken last is its desk.
abbrev pub HasDeskInHand : {K : Type 0} → Me Slot (Knows K) → Type 0
HasDeskInHand me = (number : ℕ) × (note : Slot) × (desk_of me.0.role ≡ Some number) × (me.1 ≡ (desk_slot drain_slots number, note) ∷ rest me.1)

module _ {K : Type 0} (at : K → World) where
  -- what a load tells by which a seat sits down, and one by which it gets up
  abbrev pub sitting : Step Slot → Me Slot (Knows K) → ℕ → Me Slot (Knows K) → Type 0
  sitting st m n m' = (number : ℕ) → desk_of m.0.role ≡ Some number → SatDown (plane at) number m.0 m.1 m'

  abbrev pub rising : Step Slot → Me Slot (Knows K) → ℕ → Me Slot (Knows K) → Type 0
  rising st m n m' = GotUp (plane at) m.0 (rest m.1) m'
