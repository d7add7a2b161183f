-- Sitting down at a desk and getting up from it keep the rule of the table.
use Rattle.std.proofs.Common.{◌≡◌, ℕ, ◌<◌, sym, subst, ◌∙◌, false, List, ◌∷◌}
use Rattle.std.specs.Prelude.{Some}
use mathlib.Core.Option.{none}
use Rattle.atomic_table.specs.Table.{Me, step, rest, Allows, carried_after}
use Rattle.fkv_base.specs.Limits.{drain_slots}
use Rattle.law_world.specs.Below.fkv_world.Runs.{World}
use Rattle.fkv_seats.specs.Rule.{GotUp, Ruled, SatDown, desk_of, desk_slot}
use Rattle.fkv_seats.proofs.Keeps.{same_some}
use Rattle.fkv_seats.proofs.Desks.{sits_down, gets_up}
use Rattle.fkv_table.specs.Desks.{Slot, Knows}
use Rattle.fkv_table.specs.Planes.{plane}
use Rattle.fkv_table.specs.Seating.{rising, sitting}

module _ {K : Type 0} (at : K → World) where
  pub may_sit : (key : K) (slots id : ℕ) (me : Me Slot (Knows K)) (number : ℕ) → desk_of me.0.role ≡ Some number → me.0.desk ≡ false → desk_slot drain_slots number < slots
      → Allows (Ruled (plane at) key) slots id me 0 (λ n. n) (sitting at (step slots 0 0 0 none) me)
  may_sit key slots id me number whose no_desk few s h l g b =
      let t = sits_down (plane at) key slots id number 0 me.0 me.1 whose no_desk few s h l g b in
      (t.0, t.1, t.2, t.3, λ other its. subst (λ (n : ℕ). SatDown (plane at) n me.0 me.1 (t.0, carried_after me.1 t.1)) (same_some number other (sym whose ∙ its)) t.4)

  pub may_rise : (key : K) (slots id : ℕ) (me : Me Slot (Knows K)) (number : ℕ) (note : Slot) → desk_of me.0.role ≡ Some number → me.1 ≡ (desk_slot drain_slots number, note) ∷ rest me.1
      → Allows (Ruled (plane at) key) slots id me 0 (λ n. n) (rising at (step slots 0 0 0 none) me)
  may_rise key slots id me number note whose is =
      subst (λ (c : List (ℕ × Slot)). Allows (Ruled (plane at) key) slots id (me.0, c) 0 (λ n. n) (λ n m'. GotUp (plane at) me.0 (rest me.1) m')) (sym is)
      (gets_up (plane at) key slots id number 0 me.0 (rest me.1) note whose)
