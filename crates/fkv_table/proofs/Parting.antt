-- A session's seat, from which one for nobody is cut off.
use Rattle.std.proofs.Common.{◌≡◌, ℕ, List, refl, sym, ap, subst, ◌∙◌}
use Rattle.std.specs.Prelude.{None}
use Rattle.atomic_table.specs.Seated.{TableId}
use Rattle.atomic_table.specs.Table.{Me, Splits}
use Rattle.fkv_map.specs.declared.operations.Call.{Call}
use Rattle.fkv_session.specs.Sessions.{Sitter}
use Rattle.fkv_seats.specs.declared.views.Role.TheVariants.{Sits}
use Rattle.fkv_seats.specs.Rule.{AreApart, KeepsDesk, Ruled, left_role, left_view, right_view}
use Rattle.fkv_seats.proofs.Seats.{splits}
use Rattle.law_world.specs.Below.fkv_world.Runs.{World}
use Rattle.fkv_table.specs.declared.happenings.Happening.{Happening}
use Rattle.fkv_table.specs.Calls.{HasCalled, IsReady}
use Rattle.fkv_table.specs.Desks.{Knows, Slot}
use Rattle.fkv_table.specs.Planes.{plane}

module _ {K : Type 0} (at : K → World) where
  -- it may be cut
  pub parts_from : (key : K) (id : ℕ) (v : Knows K) (number : ℕ) → v.role ≡ Sits number → v.hand ≡ None → Splits (Ruled (plane at) key) id v (left_view (plane at) v) (right_view (plane at) v)
  parts_from key id v number role empty = splits (plane at) key id v empty (λ sits. subst KeepsDesk (sym role) refl) (subst AreApart (sym role) tt)

  -- and its view stays
  pub left_same : (v : Knows K) (number : ℕ) → v.role ≡ Sits number → left_view (plane at) v ≡ v
  left_same v number role =
      let same : left_role v.role ≡ v.role = ap left_role role ∙ sym role in
      λ i. record { about = v.about; role = same i; seen = v.seen; hand = v.hand; desk = v.desk; met = v.met }

  -- so the session is ready by that seat
  pub ready_by : (key : K) (table seat seat' : TableId) (me me' : Me Slot (Knows K)) (m : Sitter) (desk : ℕ) → seat' ≡ seat → me' ≡ me → IsReady at key table seat me m desk → IsReady at key table seat' me' m desk
  ready_by key table seat seat' me me' m desk same_table same_me ready = subst (λ (x : TableId × Me Slot (Knows K)). IsReady at key table x.0 x.1 m desk) (λ i. (sym same_table i, sym same_me i)) ready

-- and its call begins by what it had seen
pub called_by : {K : Type 0} (number : ℕ) (call : Call) (me me' : Me Slot (Knows K)) (behind : List Happening) → me' ≡ me → HasCalled number call me'.0.seen behind → HasCalled number call me.0.seen behind
called_by {K} number call me me' behind same called = subst (λ (x : Me Slot (Knows K)). HasCalled number call x.0.seen behind) same called
