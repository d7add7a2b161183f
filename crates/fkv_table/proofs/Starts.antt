-- How the seats of a table begin, and that it begins by its rule.
use Rattle.std.proofs.Common.{◌≡◌, ℕ, zero, suc, ◌+◌, ◌≤◌, refl, sym, ap, subst, ◌∙◌, true, false, true≢false, List, [], ◌∷◌, ◌++◌, length, map}
use Rattle.std.specs.Prelude.{Option, Some, None, option_map, replicate, slice_get}
use Rattle.std.proofs.lemmas.List.{length-map, length-replicate, map-append}
use Rattle.std.proofs.lemmas.Option.{slice_get-map}
use mathlib.Core.Option.{some, some-injective, some-ne-none}
use lib.ListN.{get_elem?}
use Rattle.atomic_table.specs.Seated.{TableId}
use Rattle.atomic_table.specs.Table.{Me, Splits, opening}
use Rattle.fkv_base.specs.Limits.{drain_slots}
use Rattle.fkv_plane.specs.declared.actions.Action.{Action}
use Rattle.fkv_core.specs.Worlds.{AreSeated, state_of, states_of}
use Rattle.fkv_keeper.specs.Keeping.{KeeperModel}
use Rattle.fkv_keeper.specs.KeeperRun.{is_in_hand}
use Rattle.fkv_session.specs.Sessions.{Seat, SessionState, Sitter}
use Rattle.law_world.specs.Below.fkv_world.Opened.{IsOpenedWorld}
use Rattle.law_world.specs.Below.fkv_world.Runs.{World}
use Rattle.law_world.specs.Below.fkv_world.World.{seat_at}
use Rattle.fkv_seats.specs.declared.held.Held.TheVariants.{Drain}
use Rattle.fkv_seats.specs.declared.views.Role.TheVariants.{Sits}
use Rattle.fkv_seats.specs.Rule.{AreAllowed, HandFits, Ruled, SatDown, action_in, base, desk_of, desk_slot, first_view, led, left_view, right_view, with_desk}
use Rattle.fkv_seats.proofs.Seats.{opens, splits}
use Rattle.fkv_table.specs.declared.happenings.Happening.{Happening}
use Rattle.fkv_table.specs.Desks.{Slot, Knows}
use Rattle.fkv_table.specs.Keeps.{IsFreshKeeper}
use Rattle.fkv_table.specs.Planes.{plane}
use Rattle.fkv_table.specs.Positions.{gaps, laid}
use Rattle.fkv_table.specs.Starts.{EachAt, HasSeat, IsFresh, rest_view, seat_view}

-- what holds of each item at its place, and of one more behind them
each_more : {X : Type 0} (holds : ℕ → X → Type 0) (xs : List X) (more : X) → EachAt xs holds → holds (length xs) more → EachAt (xs ++ more ∷ []) holds
each_more holds [] more all its zero x here = let same : more ≡ x = cc in subst (holds 0) same its
each_more holds [] more all its (suc i) x here = cc
each_more holds (first ∷ rest) more all its zero x here = all 0 x here
each_more holds (first ∷ rest) more all its (suc i) x here = each_more (λ n. holds (suc n)) rest more (λ n. all (suc n)) its i x here

-- as many items as what they show
pub shown_count : {X Y : Type 0} (shows : X → Y) (xs : List X) (ys : List Y) → map shows xs ≡ ys → length xs ≡ length ys
shown_count shows xs ys shown = sym (length-map xs shows) ∙ ap length shown

-- so it is where each shows one of a list
pub one_more : {X Y : Type 0} (holds : ℕ → X → Type 0) (shows : X → Y) (xs all : List X) (more : X) (ys : List Y) → all ≡ xs ++ more ∷ [] → map shows xs ≡ ys → EachAt xs holds → holds (length ys) more
    → (map shows all ≡ ys ++ shows more ∷ []) × EachAt all holds
one_more {X = X} {Y = Y} holds shows xs all more ys pushed shown each its =
    let count : length ys ≡ length xs = sym (shown_count shows xs ys shown) in (
      ap (map shows) pushed ∙ (map-append shows xs (more ∷ []) ∙ ap (λ (l : List Y). l ++ shows more ∷ []) shown),
      subst (λ (l : List X). EachAt l holds) (sym pushed) (each_more holds xs more each (subst (λ (n : ℕ). holds n more) count its)),
    )

all_empty : (count k : ℕ) (x : Slot) → get_elem? (replicate count (Drain None)) k ≡ some x → x ≡ Drain None
all_empty zero k x g = absurd (some-ne-none x (sym g))
all_empty (suc count) zero x g = sym (some-injective _ _ g)
all_empty (suc count) (suc k) x g = all_empty count k x g

none_in : (count k : ℕ) → action_in {A = Action} (replicate count None) k ≡ None
none_in zero k = refl
none_in (suc count) zero = refl
none_in (suc count) (suc k) = none_in count k

module _ {K : Type 0} (at : K → World) (key : K) where
  -- a table whose words are the opened world's, with empty slots
  pub opens_so : (words : List ℕ) (count : ℕ) → words ≡ laid (at key).now.words → (at key).now.actions ≡ replicate drain_slots None → drain_slots ≤ count
      → Ruled (plane at) key (opening words (replicate count (Drain None)) (first_view (plane at) key))
  opens_so words count is none_there low =
      opens (plane at) key words (replicate count (Drain None)) is (subst (λ (n : ℕ). drain_slots ≤ n) (sym (length-replicate {A = Slot} count (Drain None))) low)
      (λ k x l g. all_empty count k x g ∙ ap (λ (its : Option Action). Drain its) (sym (ap (λ (actions : List (Option Action)). action_in actions k) none_there ∙ none_in drain_slots k)))

  -- a session's seat is cut off from the rest
  pub splits_rest : (id number : ℕ) (v : Knows K) → v ≡ rest_view key number → Splits (Ruled (plane at) key) id v (left_view (plane at) v) (right_view (plane at) v)
  splits_rest id number v is =
      subst (λ (x : Knows K). Splits (Ruled (plane at) key) id x (left_view (plane at) x) (right_view (plane at) x)) (sym is) (splits (plane at) key id (rest_view key number) refl (λ sits. absurd (true≢false (sym sits))) tt)

  module _ (number : ℕ) (rest right : Me Slot (Knows K)) (rest_is : rest ≡ (rest_view key number, [])) (right_is : right ≡ (right_view (plane at) rest.0, [])) where
    right_so : right ≡ (right_view (plane at) (rest_view key number), [])
    right_so = right_is ∙ λ i. (right_view (plane at) (rest_is i).0, [])

    pub whose : desk_of right.0.role ≡ Some number
    whose = ap (λ (x : Me Slot (Knows K)). desk_of x.0.role) right_so

    pub no_desk : right.0.desk ≡ false
    no_desk = ap (λ (x : Me Slot (Knows K)). x.0.desk) right_so

    pub seat_so : (table seat : TableId) (back : Me Slot (Knows K)) → seat ≡ table → SatDown (plane at) number right.0 right.1 back → HasSeat key table number seat back
    seat_so table seat back same sat =
        let view : back.0 ≡ seat_view key number = sat.view ∙ ap (λ (x : Me Slot (Knows K)). with_desk (plane at) x.0 true) right_so in
        let held : back.1 ≡ (desk_slot drain_slots number, sat.note) ∷ [] = sat.desk ∙ ap (λ (x : Me Slot (Knows K)). (desk_slot drain_slots number, sat.note) ∷ x.1) right_so in
        record { same_table = same; note = sat.note; its = λ i. (view i, held i) }

  -- what is left of the rest
  pub rest_so : (number : ℕ) (rest rest' : Me Slot (Knows K)) → rest ≡ (rest_view key number, []) → rest' ≡ (left_view (plane at) rest.0, rest.1) → rest' ≡ (rest_view key (number + 1), [])
  rest_so number rest rest' is cut = cut ∙ λ i. (left_view (plane at) (is i).0, (is i).1)

  -- a session with its seat
  pub fresh_so : (table seat : TableId) (number : ℕ) (m : Sitter) (desk : ℕ) (me : Me Slot (Knows K)) → HasSeat key table number seat me → desk ≡ desk_slot drain_slots number
      → m.seat ≡ seat_at (at key).now number → slice_get (at key).now.sessions number ≡ Some m.state → IsOpenedWorld (at key)
      → table.words ≡ length (at key).now.words + gaps → table.slots ≡ desk_slot drain_slots ((at key).now.places.sessions + 1) → IsFresh at key table number m desk seat me
  unfolding led
  fresh_so table seat number m desk me has desk_is chair there opened words slots =
      let number_is : m.seat.number ≡ number = ap (λ (k : Seat). k.number) chair in
      let view : me.0 ≡ seat_view key number = ap (λ (x : Me Slot (Knows K)). x.0) has.its in
      let held : me.1 ≡ (desk_slot drain_slots number, has.note) ∷ [] = ap (λ (x : Me Slot (Knows K)). x.1) has.its in
      let empty : me.0.hand ≡ None = ap (λ (v : Knows K). v.hand) view in
      let nothing : me.0.seen ≡ [] = ap (λ (v : Knows K). v.seen) view in
      record {
        ready = λ guard. record {
          opened = record { opening = guard; words = words; slots = slots };
          same_table = has.same_table;
          rests = record {
            its = m.state;
            seated = record {
              about = ap (λ (v : Knows K). v.about) view;
              role = ap (λ (v : Knows K). v.role) view ∙ ap (λ (n : ℕ). Sits n) (sym number_is);
              chair = chair ∙ ap (seat_at (at key).now) (sym number_is);
              first = m.state;
              was = (λ i. slice_get (led (plane at) (at key) (nothing i)).now.sessions (number_is i)) ∙ there;
              calls = tt;
              allowed = subst (AreAllowed (plane at)) (sym nothing) tt;
              state = refl;
              hand = subst (λ (hand : Option ℕ). HandFits (plane at) (at key) me.0.seen hand me.1) (sym empty) tt;
            };
            alike = refl;
            idle = (opened.sessions number m.state there).none_in_hand;
          };
          at_desk = record {
            note = has.note;
            alone = subst (λ (hand : Option ℕ). base (plane at) hand me.1 ≡ (desk, has.note) ∷ []) (sym empty) (held ∙ λ i. (sym desk_is i, has.note) ∷ []);
            sits = ap (λ (v : Knows K). v.desk) view;
          };
          empty = empty;
          its_desk = desk_is ∙ ap (λ (n : ℕ). desk_slot drain_slots n) (sym number_is);
        };
        numbered = number_is;
        nothing_seen = nothing;
      }

  -- the keeper, with what is left of the rest
  pub fresh_keeper : (table seat : TableId) (k : KeeperModel) (from : ℕ) (me : Me Slot (Knows K)) → me ≡ (rest_view key from, []) → seat ≡ table
      → k ≡ record { shape = (at key).now.shape; places = (at key).now.places; state = (at key).now.keeper } → IsOpenedWorld (at key)
      → table.words ≡ length (at key).now.words + gaps → table.slots ≡ desk_slot drain_slots ((at key).now.places.sessions + 1) → IsFreshKeeper at key table k seat me
  unfolding led
  fresh_keeper table seat k from me me_is same its opened words slots =
      let view : me.0 ≡ rest_view key from = ap (λ (x : Me Slot (Knows K)). x.0) me_is in
      let held : me.1 ≡ [] = ap (λ (x : Me Slot (Knows K)). x.1) me_is in
      let empty : me.0.hand ≡ None = ap (λ (v : Knows K). v.hand) view in
      let nothing : me.0.seen ≡ [] = ap (λ (v : Knows K). v.seen) view in
      record {
        ready = λ guard. record {
          opened = record { opening = guard; words = words; slots = slots };
          same_table = same;
          keeping = record {
            about = ap (λ (v : Knows K). v.about) view;
            from = from;
            role = ap (λ (v : Knows K). v.role) view;
            shape = ap (λ (x : KeeperModel). x.shape) its;
            places = ap (λ (x : KeeperModel). x.places) its;
            allowed = subst (AreAllowed (plane at)) (sym nothing) tt;
            state = ap (λ (x : KeeperModel). x.state) its ∙ sym (ap (λ (es : List Happening). (led (plane at) (at key) es).now.keeper) nothing);
            hand = subst (λ (hand : Option ℕ). HandFits (plane at) (at key) me.0.seen hand me.1) (sym empty) tt;
            alone = subst (λ (hand : Option ℕ). base (plane at) hand me.1 ≡ []) (sym empty) held;
          };
          idle = ap (λ (x : KeeperModel). is_in_hand x.state.step) its ∙ opened.keeper.none_in_hand;
        };
        nothing_seen = nothing;
      }

  -- each session of the list
  pub each_fresh : {X : Type 0} (machine_of : X → Sitter) (desk_of : X → ℕ) (seat_of : X → TableId) (me_of : X → Me Slot (Knows K)) (table : TableId) (xs : List X) (sitters : List Sitter) → map machine_of xs ≡ sitters
      → EachAt xs (λ i x. HasSeat key table i (seat_of x) (me_of x) × (desk_of x ≡ desk_slot drain_slots i)) → states_of sitters ≡ (at key).now.sessions → AreSeated (at key).now.shape (at key).now.places sitters
      → IsOpenedWorld (at key) → table.words ≡ length (at key).now.words + gaps → table.slots ≡ desk_slot drain_slots ((at key).now.places.sessions + 1)
      → EachAt xs (λ i x. IsFresh at key table i (machine_of x) (desk_of x) (seat_of x) (me_of x))
  each_fresh machine_of desk_of seat_of me_of table xs sitters shown each states seated opened words slots i x got =
      let its = each i x got in
      let there : slice_get sitters i ≡ Some (machine_of x) = ap (λ (l : List Sitter). slice_get l i) (sym shown) ∙ (slice_get-map machine_of xs i ∙ ap (λ o. option_map machine_of o) got) in
      let state : slice_get (at key).now.sessions i ≡ Some (machine_of x).state =
      ap (λ (l : List SessionState). slice_get l i) (sym states) ∙ (slice_get-map state_of sitters i ∙ ap (λ (o : Option Sitter). option_map state_of o) there) in
      fresh_so table (seat_of x) i (machine_of x) (desk_of x) (me_of x) its.0 its.1 (seated i (machine_of x) there) state opened words slots
