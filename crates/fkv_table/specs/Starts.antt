-- How seats begin as a table is opened.
use Rattle.std.specs.Prelude.{◌≡◌, ℕ, true, false, List, [], ◌∷◌, Some, None, slice_get}
use Rattle.atomic_table.specs.Seated.{TableId}
use Rattle.atomic_table.specs.Table.{Me}
use Rattle.fkv_base.specs.Limits.{drain_slots}
use Rattle.fkv_session.specs.Sessions.{Sitter}
use Rattle.law_world.specs.Below.fkv_world.Runs.{World}
use Rattle.fkv_seats.specs.declared.views.Role.TheVariants.{Rest, Sits}
use Rattle.fkv_seats.specs.Rule.{desk_slot}
use Rattle.fkv_table.specs.Calls.{IsReady}
use Rattle.fkv_table.specs.Desks.{Slot, Knows}
use Rattle.fkv_table.specs.Openings.{IsGuardedOpening}

-- each item has it at its place in the list
abbrev pub EachAt : {X : Type 0} → List X → (ℕ → X → Type 0) → Type 0
EachAt {X} xs holds = (i : ℕ) (x : X) → slice_get xs i ≡ Some x → holds i x

-- The view of a seat that speaks for the keeper and each session from a number on, and that of a session's seat at its desk. Neither has seen anything.
abbrev pub rest_view : {K : Type 0} → K → ℕ → Knows K
rest_view key from = record { about = Some key; role = Rest from; seen = []; hand = None; desk = false; met = None }

abbrev pub seat_view : {K : Type 0} → K → ℕ → Knows K
seat_view key number = record { about = Some key; role = Sits number; seen = []; hand = None; desk = true; met = None }

-- a session's seat as it begins: its desk is all that it has in hand
pub record HasSeat {K : Type 0} (key : K) (table : TableId) (number : ℕ) (seat : TableId) (me : Me Slot (Knows K)) : Type 0 where
  pub same_table : seat ≡ table
  pub note : Slot
  pub its : me ≡ (seat_view key number, (desk_slot drain_slots number, note) ∷ [])

module _ {K : Type 0} (at : K → World) where
  -- A session of a table that was just opened, with its pass. As soon as the guard begins with the table's world they are ready.
  pub record IsFresh (key : K) (table : TableId) (number : ℕ) (m : Sitter) (desk : ℕ) (seat : TableId) (me : Me Slot (Knows K)) : Type 0 where
    pub ready : IsGuardedOpening (at key) → IsReady at key table seat me m desk
    pub numbered : m.seat.number ≡ number
    pub nothing_seen : me.0.seen ≡ []
