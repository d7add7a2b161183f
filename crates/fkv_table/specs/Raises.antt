-- One step of the table that stands for two of a session: a load, and a Cas of the same word.
use Rattle.std.specs.Prelude.{◌≡◌, ℕ, []}
use Rattle.atomic_table.specs.Table.{Me, Step}
use Rattle.law_world.specs.Below.fkv_world.Runs.{World}
use Rattle.fkv_table.specs.Desks.{Slot, Knows, turned}

module _ {K : Type 0} (at : K → World) where
  -- If it finds the expected word it tells both steps, with a moment between them. If it finds another, nothing has changed for the seat.
  abbrev pub raising : Step Slot → Me Slot (Knows K) → ℕ → Me Slot (Knows K) → Type 0
  raising st m n m' = (n ≡ st.first → (between : Me Slot (Knows K)) × turned at (λ _. []) st m n between × turned at (λ _. []) st between n m') × ((n ≡ st.first → ⊥) → m' ≡ m)
