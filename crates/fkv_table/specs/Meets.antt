-- Two passes that meet.
use Rattle.std.specs.Prelude.{◌≡◌, ℕ}
use Rattle.atomic_table.specs.Seated.{TableId}
use Rattle.atomic_table.specs.Table.{Me}
use Rattle.fkv_session.specs.Sessions.{Sitter}
use Rattle.law_world.specs.Below.fkv_world.Runs.{World}
use Rattle.fkv_seats.specs.Rule.{GoesOn, longer}
use Rattle.fkv_table.specs.Calls.{IsReady}
use Rattle.fkv_table.specs.Desks.{Slot, Knows}
use Rattle.fkv_table.specs.Planes.{plane}

module _ {K : Type 0} (at : K → World) where
  -- They are the passes of two sessions of this table, each between two calls.
  pub record AreTwoReady (key : K) (table seat seat' : TableId) (me me' : Me Slot (Knows K)) : Type 0 where
    pub first : Sitter
    pub second : Sitter
    pub desk : ℕ
    pub desk' : ℕ
    pub first_ready : IsReady at key table seat me first desk
    pub second_ready : IsReady at key table seat' me' second desk'
    pub apart : ¬ (first.seat.number ≡ second.seat.number)

  -- Both then have seen the longer list of what either had seen. Each list goes on to it with events of others than its own session.
  pub record HaveMet (first second first' second' : Me Slot (Knows K)) : Type 0 where
    pub first_seen : first'.0.seen ≡ longer (plane at) first.0.seen second.0.seen
    pub second_seen : second'.0.seen ≡ longer (plane at) first.0.seen second.0.seen
    pub first_on : GoesOn (plane at) first.0.role first.0.seen first'.0.seen
    pub second_on : GoesOn (plane at) second.0.role second.0.seen second'.0.seen

  -- which session is ready with the one pass is ready with the other
  abbrev pub StaysReady : K → TableId → TableId → TableId → Me Slot (Knows K) → Me Slot (Knows K) → Type 0
  StaysReady key table seat seat' me me' = (m : Sitter) (desk : ℕ) → IsReady at key table seat me m desk → IsReady at key table seat' me' m desk
