-- What the laws of `events` say.
use Rattle.std.specs.Prelude.{◌≡◌, ℕ, [], List, Some, slice_get}
use Rattle.law_world.specs.Below.fkv_keeper.KeeperRun.{IsOpened}
use Rattle.law_world.specs.Below.fkv_keeper.Keeping.{KeeperState}
use Rattle.law_log.specs.Ghosts.{Ghosts}
use Rattle.law_world.specs.Below.fkv_session.Sessions.{SessionState}
use Rattle.law_world.specs.Below.fkv_world.Opened.{IsOpenedWorld}
use Rattle.law_world.specs.Below.fkv_world.Runs.{World, happens, run}
use Rattle.law_world.specs.Below.fkv_world.World.{Event, seat_at}
use Rattle.law_world.specs.Guarded.Shows as guard
use Rattle.law_refine.specs.Events.Effects.{AttemptsRead, MakesEffect, TakesItsEffect, TakesNoEffect, step_at}
use Rattle.law_refine.specs.Events.GhostEvents.{ghost_events, home_in, life_ghosts, mapped, safe_at, serials_in}
use Rattle.law_refine.specs.Events.Lines.{lines_of}
use Rattle.law_refine.specs.Events.Names.{RequestsAreNamed}
use Rattle.law_refine.specs.Events.Reserved.{AllMeetReserved, AreOfSessions, AreReserved, IsUnbornFrom, MovesReserved, ReservationsAreApart, ReservationsAreOpen, ReservesNothing, tail_at}
use Rattle.law_refine.specs.Events.Worked.{IsWorkedLife}

-- what the log is told is the life's trace in the log's words
abbrev pub TraceIsTheLifes : Type 0
TraceIsTheLifes =
    (opening : World) (ghosts : Ghosts) (events : List Event) → IsOpenedWorld opening → ghosts.trace ≡ []
    → (life_ghosts opening ghosts events).trace ≡ lines_of (serials_in opening.now) (run opening events).past.trace

-- those lives, of any keeper and sessions
abbrev pub LifeIsWorked : Type 0
LifeIsWorked =
    (keeper : KeeperState) (one other : SessionState) → IsOpened keeper → IsWorkedLife keeper one other

-- what the log has fixed lies below the safe read-only offset
abbrev pub FixedIsSafe : Type 0
FixedIsSafe =
    (opening : World) (start : ℕ) (ghosts : Ghosts) (events : List Event) → guard.IsOpened opening.now start → ghosts.log.fixed ≡ safe_at opening.now
    → (life_ghosts opening ghosts events).log.fixed ≡ safe_at (run opening events).now

-- a reply moves what its session has reserved as the log's events say
abbrev pub RepliesMoveReservations : Type 0
RepliesMoveReservations =
    (opening : World) (start : ℕ) (events : List Event) (session reply : ℕ) (its : SessionState) → guard.IsOpened opening.now start
    → slice_get (run opening events).now.sessions session ≡ Some its
    → MovesReserved (seat_at (run opening events).now session) (run opening events).past.trace its reply

-- no two sessions have reserved one address
abbrev pub NoTwoReserveOne : Type 0
NoTwoReserveOne =
    (opening : World) (start : ℕ) (events : List Event) → guard.IsOpened opening.now start → ReservationsAreApart (run opening events).now

-- each such address lies at or above the safe read-only offset and below the tail
abbrev pub ReservationsLieOpen : Type 0
ReservationsLieOpen =
    (opening : World) (start : ℕ) (events : List Event) → guard.IsOpened opening.now start → ReservationsAreOpen (run opening events).now

-- no address from the tail up has a record
abbrev pub NoneIsBornAtTheTail : Type 0
NoneIsBornAtTheTail =
    (opening : World) (start : ℕ) (ghosts : Ghosts) (events : List Event) → guard.IsOpened opening.now start → IsUnbornFrom (tail_at opening.now) ghosts
    → IsUnbornFrom (tail_at (run opening events).now) (life_ghosts opening ghosts events)

-- what a session has reserved is reserved in the log
abbrev pub LogReservesTheirs : Type 0
LogReservesTheirs =
    (opening : World) (start : ℕ) (ghosts : Ghosts) (events : List Event) → guard.IsOpened opening.now start → IsUnbornFrom (tail_at opening.now) ghosts → ReservesNothing ghosts
    → AreReserved (run opening events).now (life_ghosts opening ghosts events)

-- what is reserved there is so by a session
abbrev pub LogReservesNoOthers : Type 0
LogReservesNoOthers =
    (opening : World) (start : ℕ) (ghosts : Ghosts) (events : List Event) → guard.IsOpened opening.now start → IsUnbornFrom (tail_at opening.now) ghosts → ReservesNothing ghosts
    → AreOfSessions (run opening events).now (life_ghosts opening ghosts events)

-- each record that is published or given up was reserved until then
abbrev pub EventsMeetReserved : Type 0
EventsMeetReserved =
    (opening : World) (start : ℕ) (ghosts : Ghosts) (events : List Event) → guard.IsOpened opening.now start → IsUnbornFrom (tail_at opening.now) ghosts → ReservesNothing ghosts
    → AllMeetReserved (home_in opening.now.shape.bucket_bits) ghosts (mapped opening events)

-- the effect that a reply makes is what takes effect by the log's events of that step
abbrev pub RepliesTakeTheirEffect : Type 0
RepliesTakeTheirEffect =
    (opening : World) (start : ℕ) (events : List Event) (session reply : ℕ) (its : SessionState) → guard.IsOpened opening.now start
    → slice_get (run opening events).now.sessions session ≡ Some its
    → TakesItsEffect (seat_at (run opening events).now session) (run opening events).past.trace its reply

-- an event puts that effect at the front of the history, or leaves it
abbrev pub EventsMakeTheirEffect : Type 0
EventsMakeTheirEffect =
    (opening : World) (start : ℕ) (events : List Event) (event : Event) → guard.IsOpened opening.now start
    → MakesEffect (run opening events).past.history (happens (run opening events) event).past.history (step_at (run opening events).now event) (ghost_events (serials_in opening.now) (run opening events) event)

-- by an attempt of a read nothing takes effect
abbrev pub ReadsTakeNoEffect : Type 0
ReadsTakeNoEffect =
    (opening : World) (start : ℕ) (events : List Event) (session reply : ℕ) (its : SessionState) → guard.IsOpened opening.now start
    → slice_get (run opening events).now.sessions session ≡ Some its → AttemptsRead its its.step
    → TakesNoEffect (seat_at (run opening events).now session) (run opening events).past.trace its reply

-- a request is named by its operation
abbrev pub RequestsHaveNames : Type 0
RequestsHaveNames =
    (opening : World) (start : ℕ) (events : List Event) (session : ℕ) (its : SessionState) → guard.IsOpened opening.now start
    → slice_get (run opening events).now.sessions session ≡ Some its → RequestsAreNamed its
