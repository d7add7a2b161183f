-- A world as its life begins.
use Rattle.std.proofs.Common.{◌≡◌, ◌∙◌, sym, ap, subst, refl, ℕ, false, List, length}
use Rattle.std.specs.Prelude.{Option, Some, None, option_map, replicate, slice_get}
use Rattle.std.proofs.lemmas.List.{length-map}
use Rattle.std.proofs.lemmas.Option.{slice_get-map}
use Rattle.fkv_base.specs.Limits.{drain_slots}
use Rattle.fkv_base.specs.declared.shapes.Shape.{Shape}
use Rattle.fkv_keeper.specs.KeeperRun as keeper
use Rattle.fkv_keeper.specs.Keeping.{KeeperModel}
use Rattle.fkv_keeper.specs.NewKeepers.{IsNewKeeper}
use Rattle.fkv_plane.specs.Plane.{Plane}
use Rattle.fkv_plane.specs.declared.places.Places.{Places}
use Rattle.fkv_opening.specs.declared.opened_store.Opened.{Opened}
use Rattle.fkv_session.specs.Sessions.{Seat, Sitter, SessionState}
use Rattle.fkv_world.specs.Opened.{IsOpenedWorld}
use Rattle.fkv_world.specs.World.{Now}
use Rattle.fkv_core.specs.OpeningWords.{AreWordsOfOpened}
use Rattle.fkv_core.specs.Openings.{AreOpeningSitters, IsOpeningSession, IsOpeningWorld, beginning, newest_commit}
use Rattle.fkv_core.specs.Worlds.{AreSeated, state_of, states_of}
use Rattle.fkv_core.proofs.SamePlaces.{one_store}

-- what the parts show together
abbrev pub begun : Plane → List Sitter → KeeperModel → Now
begun plane sitters k = record { shape = k.shape; places = k.places; words = plane.words; actions = plane.actions; sessions = states_of sitters; keeper = k.state; crashed = false }

abbrev seat_of : Places → Shape → ℕ → Seat
seat_of places shape number = record { places = places; shape = shape; number = number }

-- the sessions sit in the keeper's store
pub seated : (o : Opened) (k : KeeperModel) (sitters : List Sitter) → IsNewKeeper o.shape (newest_commit o) o.lost.items k → AreOpeningSitters o sitters → AreSeated k.shape k.places sitters
seated o k sitters new sit i s found =
    let its = sit i s found in
    let places : s.seat.places ≡ k.places = one_store o.shape s.seat.places k.places its.places new.its_places in
    let shape : s.seat.shape ≡ k.shape = its.shape ∙ sym new.its_shape in
    ap (λ (p : Places). seat_of p s.seat.shape s.seat.number) places ∙ ap (λ (h : Shape). seat_of k.places h s.seat.number) shape ∙ ap (λ (n : ℕ). seat_of k.places k.shape n) its.at_number

-- a state in the list is that of a session
same_some : {X : Type 0} (x y : X) → Some x ≡ Some y → x ≡ y
same_some x y e = cc

of_sitter : (o : Opened) (sitters : List Sitter) (number : ℕ) (s : SessionState) (found : Option Sitter) → AreOpeningSitters o sitters → slice_get sitters number ≡ found → option_map state_of found ≡ Some s → IsOpeningSession o number s
of_sitter o sitters number s None sit got is = cc
of_sitter o sitters number s (Some it) sit got is =
    let its = sit number it got in
    subst (λ (x : SessionState). IsOpeningSession o number x) (same_some it.state s is) its.state

its_sessions : (o : Opened) (sitters : List Sitter) → AreOpeningSitters o sitters → (number : ℕ) (s : SessionState) → slice_get (states_of sitters) number ≡ Some s → IsOpeningSession o number s
its_sessions o sitters sit number s found = of_sitter o sitters number s (slice_get sitters number) sit refl (sym (slice_get-map state_of sitters number) ∙ found)

pub is_opening : (o : Opened) (plane : Plane) (sitters : List Sitter) (k : KeeperModel) → AreWordsOfOpened o plane.words → plane.actions ≡ replicate drain_slots None → length sitters ≡ o.shape.sessions → AreOpeningSitters o sitters
    → IsNewKeeper o.shape (newest_commit o) o.lost.items k → IsOpeningWorld o (begun plane sitters k)
is_opening o plane sitters k words slots seats sit new = record {
  its_shape = new.its_shape;
  its_places = new.its_places;
  its_words = words;
  no_actions = slots;
  seats = length-map sitters state_of ∙ seats;
  its_sessions = its_sessions o sitters sit;
  its_keeper = new;
  goes_on = refl;
}

pub is_opened : (o : Opened) (n : Now) (bytes : List ℕ) → IsOpeningWorld o n → keeper.IsOpened n.keeper → IsOpenedWorld (beginning n bytes)
is_opened o n bytes its opened = record {
  goes_on = its.goes_on;
  no_history = refl;
  no_trace = refl;
  no_calls = refl;
  seats = its.seats ∙ sym its.its_places.sessions;
  keeper = opened;
  sessions = λ number s found. (its.its_sessions number s found).opened;
}
