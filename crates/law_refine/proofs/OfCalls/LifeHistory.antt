-- The log's history beside a life has the entries of the life's.
use Rattle.std.proofs.Common.{◌≡◌, ℕ, ◌∙◌, List, [], ◌∷◌, refl, ap, sym}
use Rattle.std.specs.Prelude.{Option, Some, None, slice_get}
use Rattle.fkv_epoch.proofs.Shown.{none_some}
use Rattle.law_log.specs.Ghosts.{Ghosts, GhostEvent, ghost_run}
use Rattle.law_world.specs.Below.fkv_session.Replies.{with_effect}
use Rattle.law_world.specs.Below.fkv_session.Sessions.{SessionState}
use Rattle.law_world.specs.Below.fkv_world.Opened.{IsOpenedWorld}
use Rattle.law_world.specs.Below.fkv_world.Past as world
use Rattle.law_world.specs.Below.fkv_world.Runs.{World, happens, run}
use Rattle.law_world.specs.Below.fkv_world.World.{Event, Calls, Moves, Commits, Turns, KeeperMoves, Crashes, Now}
use Rattle.law_world.specs.Guarded.Shows as guard
use Rattle.law_refine.specs.Events.Effects.{mover_step, step_at, MakesEffect}
use Rattle.law_refine.specs.Events.GhostEvents.{serials_in, ghost_events, home_in, mapped, life_ghosts}
use Rattle.law_refine.specs.Events.Published.{AllMeetPublished}
use Rattle.law_refine.specs.Events.Reservations.{Reservation}
use Rattle.law_refine.specs.Events.Reserved.{HasReserved, IsUnbornFrom, ReservesNothing, tail_at}
use Rattle.law_refine.proofs.OfEvents.EventEffects.{life_makes}
use Rattle.law_refine.proofs.OfEvents.ReservedLife.{life_reserved}
use Rattle.law_refine.specs.Calls.Calls.{effects_in_log, effects_of_life, entries_of}
use Rattle.law_refine.proofs.OfCalls.SameHistory.{takes_entries, made_entries, meets_behind}

-- what is reserved by the session that moves
mover_reserves : (n : Now) (number : ℕ) (found : Option SessionState) (its : Reservation) → slice_get n.sessions number ≡ found → (mover_step n number found).reserved ≡ Some its → HasReserved n number its
mover_reserves n number None its e reserved = none_some its reserved
mover_reserves n number (Some s) its e reserved = record { state = s; found = e; reserved = reserved }

step_reserves : (n : Now) (event : Event) (its : Reservation) → (step_at n event).reserved ≡ Some its → (number : ℕ) × HasReserved n number its
step_reserves n (Moves number) its reserved = (number, mover_reserves n number (slice_get n.sessions number) its refl reserved)
step_reserves n (Calls number call) its reserved = none_some its reserved
step_reserves n (Commits kind) its reserved = none_some its reserved
step_reserves n Turns its reserved = none_some its reserved
step_reserves n (KeeperMoves granted done) its reserved = none_some its reserved
step_reserves n Crashes its reserved = none_some its reserved

pub life_entries : (opening : World) (start : ℕ) (ghosts : Ghosts) (events : List Event) → IsOpenedWorld opening → guard.IsOpened opening.now start → IsUnbornFrom (tail_at opening.now) ghosts → ReservesNothing ghosts
    → ghosts.log.history ≡ [] → AllMeetPublished (home_in opening.now.shape.bucket_bits) ghosts (mapped opening events)
    → entries_of (life_ghosts opening ghosts events).log.history ≡ entries_of (effects_of_life opening events)
unfolding mapped run ghost_run
life_entries opening start ghosts [] opened guarded unborn free none meets = ap entries_of none ∙ sym (ap (λ (x : List world.Effect). entries_of (effects_in_log x)) opened.no_history)
life_entries opening start ghosts (event ∷ before) opened guarded unborn free none meets =
    takes_entries home ghosts (step_at w.now event) its_events (mapped opening before) its.made its.takes meets
    (λ it reserved. life_reserved opening start ghosts before guarded unborn free (step_reserves w.now event it reserved).0 it (step_reserves w.now event it reserved).1)
    ∙ (ap (with_effect its.made) (life_entries opening start ghosts before opened guarded unborn free none (meets_behind home ghosts its_events (mapped opening before) meets))
    ∙ (sym (made_entries its.made (step_at w.now event).version w.past.history) ∙ sym (ap (λ (x : List world.Effect). entries_of (effects_in_log x)) its.history)))
  where
    home : ℕ → ℕ
    home = home_in opening.now.shape.bucket_bits

    w : World
    w = run opening before

    its_events : List GhostEvent
    its_events = ghost_events (serials_in opening.now) w event

    its : MakesEffect w.past.history (happens w event).past.history (step_at w.now event) its_events
    its = life_makes opening start before event guarded
