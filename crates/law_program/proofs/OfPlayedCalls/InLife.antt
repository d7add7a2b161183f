-- A session's call that is moved alone, in a life.
use Rattle.std.proofs.Common.{◌≡◌, ◌≢◌, ◌∙◌, ◌⊎◌, ℕ, zero, suc, List, ◌∷◌, Bool, true, false, ap, arith, inl, inr, refl, sym}
use Rattle.std.specs.Prelude.{Option, Some, None, slice_get, ◌==◌}
use Rattle.std.proofs.lemmas.Bool.Decides.{nat_tests}
use Rattle.fkv_epoch.proofs.Shown.{none_some, same_or, some_same}
use Rattle.fkv_map.specs.declared.operations.Call.{Call}
use Rattle.law_order.specs.Below.fkv_session.Sessions.{SessionState, is_busy}
use Rattle.law_order.specs.Below.fkv_session.Told.{Told}
use Rattle.law_order.specs.Below.fkv_session.Sitting.TheVariants.{Idle}
use Rattle.law_order.specs.Below.fkv_world.Runs.{World, happens, run}
use Rattle.law_order.specs.Below.fkv_world.World.{Calls, Event, Moves}
use Rattle.law_order.proofs.Below.fkv_world.Shown.{is_over, session_apart}
use Rattle.law_order.proofs.Below.law_world.OfRuns.Nothing.{no_session}
use Rattle.law_order.specs.Below.law_refine.Results.Results.{NobodyCalls}
use Rattle.law_order.specs.Served.Fits.{CallFits, CallsFit}
use Rattle.law_order.specs.Tickets.Few.{HasFewCalls}
use Rattle.law_program.specs.PlayedCalls.PlayedCalls.{called_alone}

-- ---- its events
pub calls_fit : (number moves : ℕ) (asked : Call) (life : List Event) → CallFits asked → CallsFit life → CallsFit (called_alone number moves asked life)
calls_fit number zero asked life fits all = (fits, all)
calls_fit number (suc moves) asked life fits all = (tt, calls_fit number moves asked life fits all)

-- a move is no call
pub calls_few : (number moves : ℕ) (asked : Call) (life : List Event) → HasFewCalls (Calls number asked ∷ life) → HasFewCalls (called_alone number moves asked life)
calls_few number zero asked life few = few
calls_few number (suc moves) asked life few = calls_few number moves asked life few

-- ---- where there is nothing to move
-- such a call leaves a life that is over as it was, and one in which the session isn't there
still_run : (opening : World) (life : List Event) (number moves : ℕ) (asked : Call) → happens (run opening life) (Calls number asked) ≡ run opening life → happens (run opening life) (Moves number) ≡ run opening life
    → run opening (called_alone number moves asked life) ≡ run opening life
unfolding run
still_run opening life number zero asked calls moves_so = calls
still_run opening life number (suc moves) asked calls moves_so = ap (λ (x : World). happens x (Moves number)) (still_run opening life number moves asked calls moves_so) ∙ moves_so

pub was_alive : (opening : World) (life : List Event) (number moves : ℕ) (asked : Call) → (run opening (called_alone number moves asked life)).now.crashed ≡ false → (run opening life).now.crashed ≡ false
was_alive opening life number moves asked alive = by_crash (run opening life).now.crashed refl
  where
    by_crash : (crashed : Bool) → (run opening life).now.crashed ≡ crashed → (run opening life).now.crashed ≡ false
    by_crash false e = e
    by_crash true e =
        let same = still_run opening life number moves asked (is_over (run opening life) (Calls number asked) e) (is_over (run opening life) (Moves number) e) in
        ap (λ (x : World). x.now.crashed) (sym same) ∙ alive

pub record IsThere (opening : World) (life : List Event) (number : ℕ) : Type 0 where
  pub s : SessionState
  pub found : slice_get (run opening life).now.sessions number ≡ Some s

pub was_there : (opening : World) (life : List Event) (number moves : ℕ) (asked : Call) (its : SessionState) → slice_get (run opening (called_alone number moves asked life)).now.sessions number ≡ Some its → IsThere opening life number
was_there opening life number moves asked its found = by_seat (slice_get (run opening life).now.sessions number) refl
  where
    by_seat : (seat : Option SessionState) → slice_get (run opening life).now.sessions number ≡ seat → IsThere opening life number
    by_seat (Some s) e = record { s = s; found = e }
    by_seat None e =
        let none = no_session (run opening life) number asked e in
        let same = still_run opening life number moves asked none.0 none.1 in
        none_some its (sym e ∙ (ap (λ (x : World). slice_get x.now.sessions number) (sym same) ∙ found))

-- ---- the others
others_stay : (opening : World) (life : List Event) (number moves : ℕ) (asked : Call) (other : ℕ) → (number == other) ≡ false → slice_get (run opening (called_alone number moves asked life)).now.sessions other ≡ slice_get (run opening life).now.sessions other
unfolding run
others_stay opening life number zero asked other apart = session_apart (run opening life) (Calls number asked) other apart
others_stay opening life number (suc moves) asked other apart =
    session_apart (run opening (called_alone number moves asked life)) (Moves number) other apart ∙ others_stay opening life number moves asked other apart

pub nobody_behind : (opening : World) (life : List Event) (number moves : ℕ) (asked : Call) (its : SessionState) (answer : Told) → NobodyCalls (run opening life).now
    → slice_get (run opening (called_alone number moves asked life)).now.sessions number ≡ Some its → its.step ≡ Idle answer → NobodyCalls (run opening (called_alone number moves asked life)).now
nobody_behind opening life number moves asked its answer nobody found at other s there = by_number (same_or number other)
  where
    by_number : (number ≡ other) ⊎ (number ≢ other) → is_busy s.step ≡ false
    by_number (inl same) =
        let here : Some its ≡ Some s = sym found ∙ (ap (slice_get (run opening (called_alone number moves asked life)).now.sessions) same ∙ there) in
        ap (λ (x : SessionState). is_busy x.step) (sym (some_same its s here)) ∙ ap is_busy at
    by_number (inr apart) =
        let other_one : (number == other) ≡ false = grind (arith, nat_tests) in
        nobody other s (sym (others_stay opening life number moves asked other other_one) ∙ there)
