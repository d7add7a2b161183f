-- What the law of versions says.
use Rattle.std.specs.Prelude.{◌≡◌, ℕ, List, ◌++◌}
use Rattle.law_refine.specs.Below.fkv_session.Sessions.{SessionState}
use Rattle.law_refine.specs.Below.fkv_world.Opened.{HasBecome, IsOpenedWorld}
use Rattle.law_refine.specs.Below.fkv_world.Runs.{World, run}
use Rattle.law_refine.specs.Below.fkv_world.World.{Event}
use Rattle.law_refine.specs.Below.law_world.Guarded.Shows as guard
use Rattle.law_log.specs.Ghosts.{GhostEvent, Ghosts, ghost_run}
use Rattle.law_refine.specs.Events.Effects.{step_at}
use Rattle.law_refine.specs.Events.GhostEvents.{ghost_events, home_in, life_ghosts, mapped, serials_in}
use Rattle.law_refine.specs.Events.Reserved.{IsUnbornFrom, tail_at}
use Rattle.law_commit.specs.PhaseVersions.{phase_version}
use Rattle.law_commit.specs.Phases.Staged.{OpensAtRest}
use Rattle.law_commit.specs.Versions.Cells.{AllReserveFromUpto, AllReserveOf, CellsFrom, CellsUpto, KeepsVersions}
use Rattle.law_commit.specs.Versions.Effects.{HasEffectsOfItsVersions, PointSplits}
use Rattle.law_commit.specs.Versions.Requests.{RequestsFrom}
use Rattle.law_commit.specs.Versions.Seen.{HasSeenOlder}
use Rattle.law_commit.specs.Views.{sight_of}

-- A store was just opened at rest, with its records' end at `start`. The log has no record from its tail up, and none of a later version than the phase word's.
pub record OpensWithLog (opening : World) (start : ℕ) (ghosts : Ghosts) : Type 0 where
  pub guarded : guard.IsOpened opening.now start
  pub opened : IsOpenedWorld opening
  pub rests : OpensAtRest opening.now
  pub unborn : IsUnbornFrom (tail_at opening.now) ghosts
  pub upto : CellsUpto (phase_version opening.now.words) ghosts.log

-- the version with which a life begins, and the one now
abbrev pub first_version : World → ℕ
first_version opening = phase_version opening.now.words

abbrev pub version_now : World → List Event → ℕ
version_now opening events = phase_version (run opening events).now.words

-- each session's updates are of versions from the first one up to the session's
abbrev pub HasRequestsFrom : Type 0
HasRequestsFrom =
    (opening : World) (start : ℕ) (events : List Event) (session : ℕ) (first its : SessionState) → guard.IsOpened opening.now start → OpensAtRest opening.now → HasBecome opening events session first its
    → RequestsFrom (first_version opening) its

-- an event takes an address for a record of the version of the request that is attempted
abbrev pub ReservesItsVersion : Type 0
ReservesItsVersion =
    (opening : World) (start : ℕ) (events : List Event) (event : Event) → guard.IsOpened opening.now start
    → AllReserveOf (step_at (run opening events).now event).version.0 (ghost_events (serials_in opening.now) (run opening events) event)

-- which is one from the first up to the phase word's
abbrev pub ReservesFromUpto : Type 0
ReservesFromUpto =
    (opening : World) (start : ℕ) (events : List Event) (event : Event) → guard.IsOpened opening.now start → IsOpenedWorld opening → OpensAtRest opening.now
    → AllReserveFromUpto (first_version opening) (version_now opening events) (ghost_events (serials_in opening.now) (run opening events) event)

-- no record is of a later version than the phase word's
abbrev pub HasCellsUpto : Type 0
HasCellsUpto =
    (opening : World) (start : ℕ) (ghosts : Ghosts) (events : List Event) → OpensWithLog opening start ghosts
    → CellsUpto (version_now opening events) (life_ghosts opening ghosts events).log

-- nor between the events of the log that one event of the life is
abbrev pub HasCellsUptoBetween : Type 0
HasCellsUptoBetween =
    (opening : World) (start : ℕ) (ghosts : Ghosts) (events : List Event) (event : Event) (later earlier : List GhostEvent) → OpensWithLog opening start ghosts
    → ghost_events (serials_in opening.now) (run opening events) event ≡ later ++ earlier
    → CellsUpto (version_now opening events) (ghost_run (home_in opening.now.shape.bucket_bits) ghosts (earlier ++ mapped opening events)).log

-- those of the life itself are of no earlier one than the first
abbrev pub HasCellsFrom : Type 0
HasCellsFrom =
    (opening : World) (start : ℕ) (ghosts : Ghosts) (events : List Event) → OpensWithLog opening start ghosts
    → CellsFrom (tail_at opening.now) (first_version opening) (life_ghosts opening ghosts events).log

-- a record below the tail keeps its version
abbrev pub KeepsItsVersions : Type 0
KeepsItsVersions =
    (opening : World) (start : ℕ) (ghosts : Ghosts) (later before : List Event) → guard.IsOpened opening.now start
    → KeepsVersions (tail_at (run opening before).now) (life_ghosts opening ghosts before).log (life_ghosts opening ghosts (later ++ before)).log

-- so what a session has seen older stays older
abbrev pub SeesOlder : Type 0
SeesOlder =
    (opening : World) (start : ℕ) (ghosts : Ghosts) (events : List Event) (session : ℕ) (first its : SessionState) → OpensWithLog opening start ghosts → HasBecome opening events session first its
    → HasSeenOlder (sight_of opening events session) (life_ghosts opening ghosts events).log

-- ---- the history
-- each effect is of the version at which its update was accepted
abbrev pub HasEffectsOfVersions : Type 0
HasEffectsOfVersions =
    (opening : World) (start : ℕ) (events : List Event) (session : ℕ) (first its : SessionState) → guard.IsOpened opening.now start → OpensAtRest opening.now → HasBecome opening events session first its
    → HasEffectsOfItsVersions opening session first its events

-- so a session's point of a version that it has left splits its effects by version
abbrev pub HasSplittingPoints : Type 0
HasSplittingPoints =
    (opening : World) (start : ℕ) (events : List Event) (session : ℕ) (first its : SessionState) → guard.IsOpened opening.now start → OpensAtRest opening.now → HasBecome opening events session first its
    → PointSplits opening session its events
