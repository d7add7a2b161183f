-- What a seat's desk tells, and what a step of a session tells by it.
use Rattle.std.specs.Prelude.{◌≡◌, ℕ, true, List, [], ◌∷◌, Some}
use Rattle.atomic_table.specs.Table.{Me, Step}
use Rattle.fkv_plane.specs.declared.actions.Action.{Action}
use Rattle.law_world.specs.Below.fkv_world.Runs.{World}
use Rattle.fkv_seats.specs.declared.held.Held.{Held}
use Rattle.fkv_seats.specs.declared.held.Held.TheVariants.{Drain, Desk}
use Rattle.fkv_seats.specs.declared.views.View.{View}
use Rattle.fkv_seats.specs.Rule.{Stepped, base, number_of}
use Rattle.fkv_table.specs.declared.happenings.Happening.{Happening}
use Rattle.fkv_table.specs.declared.happenings.Happening.TheVariants.{Moves}
use Rattle.fkv_table.specs.Planes.{plane}

abbrev pub Slot : Type 0
Slot = Held Action Happening

abbrev pub Knows : Type 0 → Type 0
Knows K = View Happening K

-- what its desk says that a seat is about to add, where the desk is the newest slot in hand
abbrev pub written : Slot → List Happening
written (Desk its) = its ∷ []
written (Drain action) = []

abbrev pub noted : List (ℕ × Slot) → List Happening
noted [] = []
noted (x ∷ xs) = written x.1

module _ {K : Type 0} (at : K → World) where
  -- what a step of a session tells, with the starts that it adds before its own event
  abbrev pub turned : (List (ℕ × Slot) → List Happening) → Step Slot → Me Slot (Knows K) → ℕ → Me Slot (Knows K) → Type 0
  turned own st m n m' = (key : K) → m.0.about ≡ Some key → Stepped (plane at) (at key) m.0 m.1 st.word (own m.1) (Moves (number_of m.0.role)) n m'

  -- what a load tells that adds what the desk says and nothing else
  abbrev pub noting : Step Slot → Me Slot (Knows K) → ℕ → Me Slot (Knows K) → Type 0
  noting st m n m' = (key : K) (its : Happening) → m.0.about ≡ Some key → noted m.1 ≡ its ∷ [] → Stepped (plane at) (at key) m.0 m.1 st.word [] its n m'

  -- the desk is all that the seat has in hand beside a drain slot
  pub record IsAtDesk (desk : ℕ) (me : Me Slot (Knows K)) : Type 0 where
    pub note : Slot
    pub alone : base (plane at) me.0.hand me.1 ≡ (desk, note) ∷ []
    pub sits : me.0.desk ≡ true
