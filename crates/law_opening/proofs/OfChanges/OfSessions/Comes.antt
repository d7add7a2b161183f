-- What an event makes of a session: nothing, a call that begins, or a step.
use Rattle.std.proofs.Common.{◌≡◌, ℕ, ◌∙◌, refl, ap, sym, Bool, true, false}
use Rattle.std.specs.Prelude.{Some, if◌then◌else◌, slice_get}
use Rattle.fkv_epoch.proofs.Shown.{some_same}
use Rattle.fkv_map.specs.declared.operations.Call.{Call}
use Rattle.law_refine.specs.Below.fkv_session.Sessions.{SessionState, is_busy, session_begun}
use Rattle.law_refine.specs.Below.fkv_world.Actors.{is_of_session, session_goes}
use Rattle.law_refine.specs.Below.fkv_world.Moves.{session_moved}
use Rattle.law_refine.specs.Below.fkv_world.Runs.{World, happens}
use Rattle.law_refine.specs.Below.fkv_world.World.{Event, Calls, Moves, near, seat_at}
use Rattle.law_refine.proofs.Below.fkv_world.Shown.{is_over, session_apart, session_written}

pub data SessionComes (w : World) (session : ℕ) (s after : SessionState) : Type 0 where
  Stays : after ≡ s → SessionComes w session s after
  Begins : (its : Call) → is_busy s.step ≡ false → after ≡ session_begun (seat_at w.now session) s its → SessionComes w session s after
  Steps : after ≡ (session_moved (seat_at w.now session) (near w.now s)).machine → SessionComes w session s after

called_comes : (w : World) (session : ℕ) (s after : SessionState) (its : Call) (busy : Bool) → is_busy s.step ≡ busy → after ≡ (if busy then s else session_begun (seat_at w.now session) s its) → SessionComes w session s after
called_comes w session s after its true e is = Stays is
called_comes w session s after its false e is = Begins its e is

own_comes : (w : World) (event : Event) (session : ℕ) (s after : SessionState) → is_of_session session event ≡ true → after ≡ (session_goes (seat_at w.now session) (near w.now s) event).machine → SessionComes w session s after
unfolding session_goes
own_comes w (Calls number its) session s after e is = called_comes w session s after its (is_busy s.step) refl is
own_comes w (Moves number) session s after e is = Steps is
own_comes w event session s after e is = cc

pub session_comes : (w : World) (event : Event) (session : ℕ) (s after : SessionState) → slice_get w.now.sessions session ≡ Some s → slice_get (happens w event).now.sessions session ≡ Some after → SessionComes w session s after
session_comes w event session s after was is_now = by_life w.now.crashed refl
  where
    by_actor : (mine : Bool) → is_of_session session event ≡ mine → w.now.crashed ≡ false → SessionComes w session s after
    by_actor false e alive = Stays (some_same after s (sym is_now ∙ (session_apart w event session e ∙ was)))
    by_actor true e alive = own_comes w event session s after e (some_same after _ (sym is_now ∙ session_written w event session s e alive was))

    by_life : (crashed : Bool) → w.now.crashed ≡ crashed → SessionComes w session s after
    by_life true e = Stays (some_same after s (sym is_now ∙ (ap (λ (x : World). slice_get x.now.sessions session) (is_over w event e) ∙ was)))
    by_life false e = by_actor (is_of_session session event) refl e
