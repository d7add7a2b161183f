-- Where a session's step leads its machine and the action of its slot.
use Rattle.std.proofs.Common.{◌≡◌, ℕ, refl, ap, ◌∙◌, false, List, ◌∷◌}
use Rattle.std.specs.Prelude.{Option, Some, None, slice_get}
use Rattle.fkv_plane.specs.declared.actions.Action.{Action}
use Rattle.fkv_plane.specs.declared.asks.Ask.{Ask}
use Rattle.fkv_plane.specs.declared.asks.Ask.TheVariants.{Load, Store, Swap, Cas, Add, Max, Put, Take, Done}
use Rattle.fkv_plane.specs.Asked.{asked_place}
use Rattle.fkv_plane.specs.Plane.{action_at, found_action}
use Rattle.fkv_session.specs.declared.answers.Told.{Told}
use Rattle.fkv_session.specs.Sessions.{Seat, SessionState, session_ask}
use Rattle.law_world.specs.Below.fkv_world.Actors.{session_goes}
use Rattle.law_world.specs.Below.fkv_world.Moves.{Near, session_settled, session_replied, session_asks}
use Rattle.law_world.specs.Below.fkv_world.Runs.{World}
use Rattle.law_world.specs.Below.fkv_world.World.{seat_at, near, with_session}
use Rattle.law_world.proofs.Below.fkv_world.Shown.{session_own}
use Rattle.fkv_seats.specs.Rule.{action_in, flat, led}
use Rattle.fkv_seats.proofs.Keeps.{no_some}
use Rattle.fkv_table.specs.declared.happenings.Happening.{Happening}
use Rattle.fkv_table.specs.declared.happenings.Happening.TheVariants.{Moves}
use Rattle.fkv_table.specs.Events.{event_of}
use Rattle.fkv_table.specs.Planes.{plane}
use Rattle.fkv_table.proofs.Lives.{alive, same_number}

asks_settled : (k : Seat) (n : Near SessionState) (ask : Ask Told) (place : ℕ) → asked_place ask ≡ Some place → session_asks k n ask ≡ session_settled k (session_replied k n ask) (session_ask k (session_replied k n ask).machine)
unfolding session_asks
asks_settled k n (Load i) place e = refl
asks_settled k n (Store i new) place e = refl
asks_settled k n (Swap i new) place e = refl
asks_settled k n (Cas i old new) place e = refl
asks_settled k n (Add i more) place e = refl
asks_settled k n (Max i more) place e = refl
asks_settled k n (Put slot action) place e = no_some place e
asks_settled k n (Take slot) place e = no_some place e
asks_settled k n (Done its) place e = no_some place e

-- what it has come to behind the reply, beside the words and the actions
abbrev pub replied_there : World → Seat → SessionState → Near SessionState
replied_there x k s = session_replied k (near x.now s) (session_ask k s)

pub moved_so : {K : Type 0} (at : K → World) (w : World) (es : List Happening) (number : ℕ) (s : SessionState) (place : ℕ) → w.now.crashed ≡ false → slice_get (led (plane at) w es).now.sessions number ≡ Some s
    → let x : World = led (plane at) w es in let k : Seat = seat_at x.now number in asked_place (session_ask k s) ≡ Some place
    → (led (plane at) w (Moves number ∷ es)).now ≡ with_session x.now number (session_settled k (replied_there x k s) (session_ask k (replied_there x k s).machine))
unfolding led session_goes
moved_so at w es number s place e got named =
    let x : World = led (plane at) w es in let k : Seat = seat_at x.now number in
    session_own x (event_of (Moves number)) number s (same_number number) (alive at w es e) got ∙ ap (with_session x.now number) (asks_settled k (near x.now s) (session_ask k s) place named)

-- the action of a slot by its two names
flat_found : (its : Option (Option Action)) → flat its ≡ found_action its
flat_found None = refl
flat_found (Some its) = refl

pub same_drawer : (actions : List (Option Action)) (slot : ℕ) → action_in actions slot ≡ action_at actions slot
same_drawer actions slot = flat_found (slice_get actions slot)
