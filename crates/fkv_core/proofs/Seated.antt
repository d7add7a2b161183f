-- The sessions of a world, each in its place.
use Rattle.std.proofs.Common.{◌≡◌, ◌∙◌, sym, ap, subst, arith, nat_eq, ℕ, ◌<◌, Bool, true, false, not, ◌&&◌, List, length, refl}
use Rattle.std.specs.Prelude.{Option, Some, None, option_map, slice_get, slice_set}
use Rattle.std.proofs.lemmas.Bool.Decides.{nat_tests}
use Rattle.std.proofs.lemmas.List.{map-set, length-set, get_or-set_same, get_or-set_other}
use Rattle.std.proofs.lemmas.Option.{slice_get-map, slice_get_within, slice_get-get_or, get_or_from_slice_get}
use Rattle.fkv_base.specs.declared.shapes.Shape.{Shape}
use Rattle.fkv_map.specs.declared.operations.Call.{Call}
use Rattle.fkv_plane.specs.declared.places.Places.{Places}
use Rattle.fkv_plane.specs.Plane.{Plane}
use Rattle.fkv_session.specs.Sessions.{Sitter, Seat, SessionState, is_busy}
use Rattle.fkv_world.specs.Moves.{Near, session_moved}
use Rattle.fkv_world.specs.World.{Now, seat_at, with_session, session_called, session_calls, session_moves}
use Rattle.fkv_core.specs.Told.{ends_session, may_begin, may_move}
use Rattle.fkv_core.specs.Worlds.{AreSeated, IsPut, IsCallBegunBy, AreSessionCalls, IsMovedBy, AreSessionMoves, beside, state_of, states_of}

get_put : {X : Type 0} (xs : List X) (i : ℕ) (was x : X) → slice_get xs i ≡ Some was → slice_get (slice_set xs i x) i ≡ Some x
get_put {X = X} xs i was x got =
    let below : i < length xs = slice_get_within xs i was got in
    let still : i < length (slice_set xs i x) = subst (λ (n : ℕ). i < n) (sym (length-set xs i x)) below in
    slice_get-get_or (slice_set xs i x) i x still ∙ ap (λ (it : X). Some it) (get_or-set_same xs i x x below)

get_other : {X : Type 0} (xs : List X) (i j : ℕ) (x found : X) → (j ≡ i → ⊥) → slice_get (slice_set xs i x) j ≡ Some found → slice_get xs j ≡ Some found
get_other {X = X} xs i j x found other got =
    let still : j < length (slice_set xs i x) = slice_get_within (slice_set xs i x) j found got in
    let below : j < length xs = subst (λ (n : ℕ). j < n) (length-set xs i x) still in
    slice_get-get_or xs j x below ∙ ap (λ (it : X). Some it) (sym (get_or-set_other xs i j x x other) ∙ get_or_from_slice_get (slice_set xs i x) j found x got)

same_some : {X : Type 0} (x y : X) → Some x ≡ Some y → x ≡ y
same_some x y e = grind (arith, e)

seated_by : (shape : Shape) (places : Places) (sitters : List Sitter) (number : ℕ) (s next : Sitter) → AreSeated shape places sitters → slice_get sitters number ≡ Some s → next.seat ≡ s.seat
    → (i : ℕ) (it : Sitter) (same : Bool) → nat_eq i number ≡ same → slice_get (slice_set sitters number next) i ≡ Some it → it.seat ≡ record { places = places; shape = shape; number = i }
seated_by shape places sitters number s next seated got seat i it true e found =
    let at : i ≡ number = grind (arith, nat_tests, e) in
    let its : slice_get (slice_set sitters number next) number ≡ Some it = subst (λ (n : ℕ). slice_get (slice_set sitters number next) n ≡ Some it) at found in
    let is : it ≡ next = same_some it next (sym its ∙ get_put sitters number s next got) in
    ap (λ (x : Sitter). x.seat) is ∙ seat ∙ seated number s got ∙ ap (λ (n : ℕ). record { places = places; shape = shape; number = n }) (sym at)
seated_by shape places sitters number s next seated got seat i it false e found =
    seated i it (get_other sitters number i next it (λ at. grind (arith, nat_tests, e, at)) found)

put_seated : (shape : Shape) (places : Places) (sitters sitters' : List Sitter) (number : ℕ) (s next : Sitter) → AreSeated shape places sitters → slice_get sitters number ≡ Some s → IsPut number s next sitters sitters' → AreSeated shape places sitters'
put_seated shape places sitters sitters' number s next seated got its =
    subst (λ (all : List Sitter). AreSeated shape places all) (sym its.put) (λ i it found. seated_by shape places sitters number s next seated got its.seat i it (nat_eq i number) refl found)

put_states : (sitters sitters' : List Sitter) (number : ℕ) (s next : Sitter) (after : SessionState) → IsPut number s next sitters sitters' → next.state ≡ after → states_of sitters' ≡ slice_set (states_of sitters) number after
put_states sitters sitters' number s next after its is =
    ap (λ (all : List Sitter). states_of all) its.put ∙ map-set state_of sitters number next ∙ ap (λ (x : SessionState). slice_set (states_of sitters) number x) is

-- what stands in the lists of states
was_there : (sitters : List Sitter) (number : ℕ) (s : Sitter) → slice_get sitters number ≡ Some s → slice_get (states_of sitters) number ≡ Some s.state
was_there sitters number s got = slice_get-map state_of sitters number ∙ ap (λ (it : Option Sitter). option_map state_of it) got

is_there : (sitters sitters' : List Sitter) (number : ℕ) (s next : Sitter) → slice_get sitters number ≡ Some s → IsPut number s next sitters sitters' → slice_get (states_of sitters') number ≡ Some next.state
is_there sitters sitters' number s next got its =
    was_there sitters' number next (ap (λ (all : List Sitter). slice_get all number) its.put ∙ get_put sitters number s next got)

ends_so : (ends : SessionState → Bool) (was after : Option SessionState) (s next : SessionState) (ended : Bool) → was ≡ Some s → after ≡ Some next → ended ≡ (ends s && not (is_busy next.step)) → ended ≡ ends_session ends was after
ends_so ends was after s next ended e f its =
    subst (λ (x : Option SessionState). ended ≡ ends_session ends x after) (sym e) (subst (λ (x : Option SessionState). ended ≡ ends_session ends (Some s) x) (sym f) its)

none_ends : (ends : SessionState → Bool) (was after : Option SessionState) (ended : Bool) → was ≡ None → ended ≡ false → ended ≡ ends_session ends was after
none_ends ends was after ended e none = subst (λ (x : Option SessionState). ended ≡ ends_session ends x after) (sym e) none

-- What a session's call or step makes of the world: its sessions stay in their places, they are what the rules give, and whether a call has ended is theirs.
pub record IsSessionEvent (n : Now) (after : Now) (number : ℕ) (ends : SessionState → Bool) (sitters' : List Sitter) (by_rule : Now) (ended : Bool) : Type 0 where
  pub seated : AreSeated n.shape n.places sitters'
  pub is : after ≡ by_rule
  pub over : ended ≡ ends_session ends (slice_get n.sessions number) (slice_get (states_of sitters') number)

called_by : (n : Now) (number : ℕ) (call : Call) (sitters sitters' : List Sitter) (ended : Bool) (found : Option Sitter) → slice_get sitters number ≡ found → AreSeated n.shape n.places sitters
    → IsCallBegunBy number call found sitters sitters' ended
    → IsSessionEvent (record n { sessions = states_of sitters }) (record n { sessions = states_of sitters' }) number may_begin sitters' (session_calls (record n { sessions = states_of sitters }) number call (option_map state_of found)) ended
called_by n number call sitters sitters' ended None got seated its = record {
  seated = subst (λ (all : List Sitter). AreSeated n.shape n.places all) (sym its.0) seated;
  is = ap (λ (all : List Sitter). record n { sessions = states_of all }) its.0;
  over = none_ends may_begin (slice_get (states_of sitters) number) (slice_get (states_of sitters') number) ended (slice_get-map state_of sitters number ∙ ap (λ (it : Option Sitter). option_map state_of it) got) its.1;
}
called_by n number call sitters sitters' ended (Some s) got seated its =
    let here : its.next.state ≡ session_called (seat_at n number) s.state call = its.begun ∙ ap (λ (k : Seat). session_called k s.state call) (seated number s got) in
    record {
      seated = put_seated n.shape n.places sitters sitters' number s its.next seated got its.its;
      is = ap (λ (all : List SessionState). record n { sessions = all }) (put_states sitters sitters' number s its.next (session_called (seat_at n number) s.state call) its.its here);
      over = ends_so may_begin (slice_get (states_of sitters) number) (slice_get (states_of sitters') number) s.state its.next.state ended (was_there sitters number s got) (is_there sitters sitters' number s its.next got its.its) its.ends;
    }

pub session_called_so : (n : Now) (number : ℕ) (call : Call) (sitters sitters' : List Sitter) (ended : Bool) → AreSeated n.shape n.places sitters → AreSessionCalls number call sitters sitters' ended
    → IsSessionEvent (record n { sessions = states_of sitters }) (record n { sessions = states_of sitters' }) number may_begin sitters' (session_calls (record n { sessions = states_of sitters }) number call (slice_get (states_of sitters) number)) ended
session_called_so n number call sitters sitters' ended seated its =
    let before : Now = record n { sessions = states_of sitters } in
    subst (λ (it : Option SessionState). IsSessionEvent before (record n { sessions = states_of sitters' }) number may_begin sitters' (session_calls before number call it) ended)
    (sym (slice_get-map state_of sitters number)) (called_by n number call sitters sitters' ended (slice_get sitters number) refl seated its)

-- the world with other words and actions, and other sessions
abbrev pub with_plane : Now → Plane → List Sitter → Now
with_plane n plane sitters = record n { words = plane.words; actions = plane.actions; sessions = states_of sitters }

moved_by : (n : Now) (number : ℕ) (plane plane' : Plane) (sitters sitters' : List Sitter) (ended : Bool) (found : Option Sitter) → slice_get sitters number ≡ found → AreSeated n.shape n.places sitters
    → IsMovedBy number plane plane' found sitters sitters' ended
    → IsSessionEvent (with_plane n plane sitters) (with_plane n plane' sitters') number may_move sitters' (session_moves (with_plane n plane sitters) number (option_map state_of found)) ended
moved_by n number plane plane' sitters sitters' ended None got seated its = record {
  seated = subst (λ (all : List Sitter). AreSeated n.shape n.places all) (sym its.1) seated;
  is = ap (λ (p : Plane). with_plane n p sitters') its.0 ∙ ap (λ (all : List Sitter). with_plane n plane all) its.1;
  over = none_ends may_move (slice_get (states_of sitters) number) (slice_get (states_of sitters') number) ended (slice_get-map state_of sitters number ∙ ap (λ (it : Option Sitter). option_map state_of it) got) its.2;
}
moved_by n number plane plane' sitters sitters' ended (Some s) got seated its =
    let before : Now = with_plane n plane sitters in
    let goes : Near SessionState = session_moved (seat_at n number) (beside plane s.state) in
    let here : beside plane' its.next.state ≡ goes = its.moved ∙ ap (λ (k : Seat). session_moved k (beside plane s.state)) (seated number s got) in
    let states : states_of sitters' ≡ slice_set (states_of sitters) number its.next.state = put_states sitters sitters' number s its.next its.next.state its.its refl in
    record {
      seated = put_seated n.shape n.places sitters sitters' number s its.next seated got its.its;
      is = ap (λ (all : List SessionState). record n { words = plane'.words; actions = plane'.actions; sessions = all }) states ∙ ap (λ (near : Near SessionState). with_session before number near) here;
      over = ends_so may_move (slice_get (states_of sitters) number) (slice_get (states_of sitters') number) s.state its.next.state ended (was_there sitters number s got) (is_there sitters sitters' number s its.next got its.its) its.ends;
    }

pub session_moved_so : (n : Now) (number : ℕ) (plane plane' : Plane) (sitters sitters' : List Sitter) (ended : Bool) → AreSeated n.shape n.places sitters → AreSessionMoves number plane plane' sitters sitters' ended
    → IsSessionEvent (with_plane n plane sitters) (with_plane n plane' sitters') number may_move sitters' (session_moves (with_plane n plane sitters) number (slice_get (states_of sitters) number)) ended
session_moved_so n number plane plane' sitters sitters' ended seated its =
    let before : Now = with_plane n plane sitters in
    subst (λ (it : Option SessionState). IsSessionEvent before (with_plane n plane' sitters') number may_move sitters' (session_moves before number it) ended)
    (sym (slice_get-map state_of sitters number)) (moved_by n number plane plane' sitters sitters' ended (slice_get sitters number) refl seated its)
