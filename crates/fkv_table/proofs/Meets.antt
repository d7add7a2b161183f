-- Two passes that meet.
use Rattle.std.proofs.Common.{◌≡◌, ℕ, refl, sym, ap, subst, ◌∙◌, true, false, List, [], ◌∷◌}
use Rattle.std.specs.Prelude.{Some}
use Rattle.atomic_table.specs.Seated.{TableId}
use Rattle.atomic_table.specs.Table.{Joins, Me, Splits, rest}
use Rattle.fkv_base.specs.Limits.{drain_slots}
use Rattle.law_world.specs.Below.fkv_world.Runs.{World}
use Rattle.fkv_seats.specs.declared.views.Role.{Role}
use Rattle.fkv_seats.specs.declared.views.Role.TheVariants.{Both, Sits}
use Rattle.fkv_seats.specs.Rule.{AreApart, GoesOn, GotUp, HasMet, KeepsDesk, Ruled, SatDown, both_view, desk_of, desk_slot, left_view, longer, number_of, right_view, spent_view, with_desk}
use Rattle.fkv_seats.proofs.Seats.{both_go_on, joins, splits}
use Rattle.fkv_table.specs.declared.happenings.Happening.{Happening}
use Rattle.fkv_table.specs.Desks.{Slot, Knows}
use Rattle.fkv_table.specs.Meets.{AreTwoReady, HaveMet, StaysReady}
use Rattle.fkv_table.specs.Planes.{plane}
use Rattle.fkv_table.specs.Seating.{MaySit}
use Rattle.fkv_table.proofs.Ready.{below, held, ready_on}

module _ {K : Type 0} (at : K → World) (key : K) (table seat seat' : TableId) (first second : Me Slot (Knows K)) (two : AreTwoReady at key table seat seat' first second) where
  abbrev a : ℕ
  a = two.first.seat.number

  abbrev b : ℕ
  b = two.second.seat.number

  -- the second view without its desk, and both made one
  abbrev up_view : Knows K
  up_view = with_desk (plane at) second.0 false

  abbrev met_view : Knows K
  met_view = both_view (plane at) first.0 up_view

  met_role : met_view.role ≡ Both a b
  met_role = λ i. Both (number_of (two.first_ready.rests.seated.role i)) (number_of (two.second_ready.rests.seated.role i))

  own_role : Sits (number_of first.0.role) ≡ first.0.role
  own_role = ap (λ (role : Role). Sits (number_of role)) two.first_ready.rests.seated.role ∙ sym two.first_ready.rests.seated.role

  other_role : Sits (number_of second.0.role) ≡ second.0.role
  other_role = ap (λ (role : Role). Sits (number_of role)) two.second_ready.rests.seated.role ∙ sym two.second_ready.rests.seated.role

  other_desk : desk_of (Sits (number_of second.0.role)) ≡ Some b
  other_desk = ap (λ (role : Role). desk_of (Sits (number_of role))) two.second_ready.rests.seated.role

  -- the second one has got up, and the two may be made one
  pub joins_so : (id other : ℕ) (up : Me Slot (Knows K)) → GotUp (plane at) second.0 (rest second.1) up
      → (up.1 ≡ []) × Joins (Ruled (plane at) key) id first.0 other up.0 (both_view (plane at) first.0 up.0) (spent_view (plane at))
  joins_so id other up up_is = (
    ap (λ (x : Me Slot (Knows K)). x.1) up_is ∙ ap rest (held at key table seat' second two.second two.desk' two.second_ready),
    joins (plane at) key id other a b first.0 up.0 two.first_ready.rests.seated.role (ap (λ (x : Me Slot (Knows K)). x.0.role) up_is ∙ two.second_ready.rests.seated.role)
        two.first_ready.empty (ap (λ (x : Me Slot (Knows K)). x.0.hand) up_is ∙ two.second_ready.empty) (ap (λ (x : Me Slot (Knows K)). x.0.desk) up_is),
  )

  pub both_so : (up both : Me Slot (Knows K)) → GotUp (plane at) second.0 (rest second.1) up → both ≡ (both_view (plane at) first.0 up.0, first.1) → both ≡ (met_view, first.1)
  both_so up both up_is joined = joined ∙ λ i. (both_view (plane at) first.0 (up_is i).0, first.1)

  -- and cut again
  pub splits_so : (id : ℕ) (both : Me Slot (Knows K)) → both ≡ (met_view, first.1) → Splits (Ruled (plane at) key) id both.0 (left_view (plane at) both.0) (right_view (plane at) both.0)
  splits_so id both both_is =
      let role : both.0.role ≡ Both a b = ap (λ (x : Me Slot (Knows K)). x.0.role) both_is ∙ met_role in
      splits (plane at) key id both.0 (ap (λ (x : Me Slot (Knows K)). x.0.hand) both_is) (λ sits. subst KeepsDesk (sym role) refl) (subst AreApart (sym role) two.apart)

  pub one_so : (both one : Me Slot (Knows K)) → both ≡ (met_view, first.1) → one ≡ (left_view (plane at) both.0, both.1) → one ≡ (left_view (plane at) met_view, first.1)
  one_so both one both_is cut = cut ∙ λ i. (left_view (plane at) (both_is i).0, (both_is i).1)

  pub right_so : (both right : Me Slot (Knows K)) → both ≡ (met_view, first.1) → right ≡ (right_view (plane at) both.0, []) → right ≡ (right_view (plane at) met_view, [])
  right_so both right both_is cut = cut ∙ λ i. (right_view (plane at) (both_is i).0, [])

  -- the second one may sit down again
  pub whose_again : (right : Me Slot (Knows K)) → right ≡ (right_view (plane at) met_view, []) → desk_of right.0.role ≡ Some b
  whose_again right is = ap (λ (x : Me Slot (Knows K)). desk_of x.0.role) is ∙ other_desk

  pub may_sit_again : (right : Me Slot (Knows K)) → right ≡ (right_view (plane at) met_view, []) → MaySit table right
  may_sit_again right is = (
    b,
    whose_again right is,
    ap (λ (x : Me Slot (Knows K)). x.0.desk) is,
    below at key table seat' second two.second two.desk' two.second_ready,
  )

  module _ (one right back : Me Slot (Knows K)) (one_is : one ≡ (left_view (plane at) met_view, first.1)) (right_is : right ≡ (right_view (plane at) met_view, [])) (sat : SatDown (plane at) b right.0 right.1 back) where
    back_is : back.0 ≡ with_desk (plane at) (right_view (plane at) met_view) true
    back_is = sat.view ∙ ap (λ (x : Me Slot (Knows K)). with_desk (plane at) x.0 true) right_is

    on : GoesOn (plane at) first.0.role first.0.seen (longer (plane at) first.0.seen second.0.seen) × GoesOn (plane at) second.0.role second.0.seen (longer (plane at) first.0.seen second.0.seen)
    on = both_go_on (plane at) first.0 up_view (subst (λ (x : Me Slot (Knows K)). HasMet (plane at) x.0.met x.0.seen) right_is sat.met)

    pub have_met : HaveMet at first second one back
    have_met =
        let one_seen : one.0.seen ≡ longer (plane at) first.0.seen second.0.seen = ap (λ (x : Me Slot (Knows K)). x.0.seen) one_is in
        let back_seen : back.0.seen ≡ longer (plane at) first.0.seen second.0.seen = ap (λ (v : Knows K). v.seen) back_is in
        record {
          first_seen = one_seen;
          second_seen = back_seen;
          first_on = subst (λ (es : List Happening). GoesOn (plane at) first.0.role first.0.seen es) (sym one_seen) on.0;
          second_on = subst (λ (es : List Happening). GoesOn (plane at) second.0.role second.0.seen es) (sym back_seen) on.1;
        }

    pub first_stays : (seat_one : TableId) → seat_one ≡ seat → StaysReady at key table seat seat_one first one
    first_stays seat_one same = λ m desk r.
        ready_on at key table seat first m desk r seat_one one r.at_desk.note same
        (ap (λ (x : Me Slot (Knows K)). x.0.about) one_is ∙ r.rests.seated.about)
        (ap (λ (x : Me Slot (Knows K)). x.0.role) one_is ∙ own_role)
        (ap (λ (x : Me Slot (Knows K)). x.0.hand) one_is)
        (ap (λ (x : Me Slot (Knows K)). x.0.desk) one_is ∙ r.at_desk.sits)
        (ap (λ (x : Me Slot (Knows K)). x.1) one_is ∙ held at key table seat first m desk r)
        have_met.first_on

    pub second_stays : (seat_back : TableId) → seat_back ≡ seat' → StaysReady at key table seat' seat_back second back
    second_stays seat_back same = λ m desk r.
        let number_is : b ≡ m.seat.number = ap number_of (sym two.second_ready.rests.seated.role ∙ r.rests.seated.role) in
        let desk_is : desk_slot drain_slots b ≡ desk = ap (λ (n : ℕ). desk_slot drain_slots n) number_is ∙ sym r.its_desk in
        ready_on at key table seat' second m desk r seat_back back sat.note same
        (ap (λ (v : Knows K). v.about) back_is ∙ two.first_ready.rests.seated.about)
        (ap (λ (v : Knows K). v.role) back_is ∙ other_role)
        (ap (λ (v : Knows K). v.hand) back_is)
        (ap (λ (v : Knows K). v.desk) back_is)
        (sat.desk ∙ λ i. (desk_is i, sat.note) ∷ (right_is i).1)
        have_met.second_on
