-- For a session no more calls begin than in its life.
use Rattle.std.proofs.Common.{◌≡◌, ℕ, ◌+◌, ◌≤◌, refl, arith, Bool, true, false, List, [], ◌∷◌, ◌++◌}
use Rattle.std.specs.Prelude.{Option, Some, None, slice_get, if◌then◌else◌}
use Rattle.fkv_plane.specs.declared.actions.Action.{Action}
use Rattle.fkv_plane.specs.declared.asks.Ask.{Ask}
use Rattle.fkv_plane.specs.declared.asks.Ask.TheVariants.{Put, Take, Done}
use Rattle.fkv_plane.specs.Asked.{reply_to}
use Rattle.fkv_plane.specs.Plane.{action_at}
use Rattle.law_commit.specs.Below.fkv_session.Told.{Told}
use Rattle.law_commit.specs.Below.fkv_session.SessionRun.{Replies}
use Rattle.law_commit.specs.Below.fkv_session.Sessions.{SessionState, Seat, session_ask, session_next}
use Rattle.law_commit.specs.Below.fkv_world.Actors.{is_of_session}
use Rattle.law_commit.specs.Below.fkv_world.Moves.{Near}
use Rattle.law_commit.specs.Below.fkv_world.OwnEvents.{session_events, session_got, session_part, session_part_found, session_part_of, session_slots, session_steps}
use Rattle.law_commit.specs.Below.fkv_world.Runs.{World, run}
use Rattle.law_commit.specs.Below.fkv_world.World.{Event, Calls, Moves, Now, near, seat_at}
use Rattle.law_order.specs.Tickets.Few.{HasFewCalls, calls_in, with_begun}
use Rattle.law_order.proofs.OfTickets.Begun.{begun_on, calls_begun}

-- ---- an event begins a call of one session at most, where it is a call
got_none : (found : Option Action) → calls_begun (session_got found) ≡ 0
got_none None = refl
got_none (Some action) = refl

slots_none : (actions : List (Option Action)) (ask : Ask Told) → calls_begun (session_slots actions ask) ≡ 0
unfolding session_slots
slots_none actions (Put slot action) = refl
slots_none actions (Take slot) = got_none (action_at actions slot)
slots_none actions ask = refl

replied_none : (actions : List (Option Action)) (ask : Ask Told) (reply : ℕ) → calls_begun (session_slots actions ask ++ Replies reply ∷ []) ≡ 0
replied_none actions ask reply =
    let both = begun_on (session_slots actions ask) (Replies reply ∷ []) in
    let none = slots_none actions ask in
    omega (arith, both, none)

steps_none : (k : Seat) (n : Near SessionState) (ask : Ask Told) → calls_begun (session_steps k n ask) ≡ 0
unfolding session_steps
steps_none k n (Done its) = refl
steps_none k n (Put slot action) = slots_none n.actions (Put slot action)
steps_none k n (Take slot) = slots_none n.actions (Take slot)
steps_none k n ask = replied_none n.actions (session_ask k (session_next k n.machine (reply_to n.words ask))) (reply_to n.words ask)

part_few : (k : Seat) (n : Near SessionState) (event : Event) → calls_begun (session_part k n event) ≤ with_begun event 0
unfolding session_part
part_few k n (Calls number its) = omega arith
part_few k n (Moves number) = let none = steps_none k n (session_ask k n.machine) in omega (arith, none)
part_few k n event = omega arith

found_few : (n : Now) (number : ℕ) (event : Event) (found : Option SessionState) → calls_begun (session_part_found n number event found) ≤ with_begun event 0
found_few n number event None = omega arith
found_few n number event (Some s) = by_own (is_of_session number event)
  where
    by_own : (own : Bool) → calls_begun (if own then session_part (seat_at n number) (near n s) event else []) ≤ with_begun event 0
    by_own true = part_few (seat_at n number) (near n s) event
    by_own false = omega arith

event_few : (n : Now) (number : ℕ) (event : Event) → calls_begun (session_part_of n number event) ≤ with_begun event 0
event_few n number event = by_crash n.crashed
  where
    by_crash : (crashed : Bool) → calls_begun (if crashed then [] else session_part_found n number event (slice_get n.sessions number)) ≤ with_begun event 0
    by_crash true = omega arith
    by_crash false = found_few n number event (slice_get n.sessions number)

-- one more or none
counted : (event : Event) (count : ℕ) → with_begun event count ≡ with_begun event 0 + count
counted (Calls number its) count = omega arith
counted event count = omega arith

pub begun_few : (opening : World) (number : ℕ) (events : List Event) → calls_begun (session_events opening number events) ≤ calls_in events
unfolding session_events
begun_few opening number [] = omega arith
begun_few opening number (event ∷ before) =
    let both = begun_on (session_part_of (run opening before).now number event) (session_events opening number before) in
    let one = event_few (run opening before).now number event in
    let rest = begun_few opening number before in
    let so = counted event (calls_in before) in
    omega (arith, both, one, rest, so)

-- no fewer begin in a longer life
pub before_few : (event : Event) (before : List Event) → HasFewCalls (event ∷ before) → HasFewCalls before
before_few event before few = let so = counted event (calls_in before) in omega (arith, so, few)
