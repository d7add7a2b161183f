-- What the laws of `phases` say.
use Rattle.std.specs.Prelude.{◌≡◌, ◌<◌, ◌≤◌, ℕ, List, [], Some, true}
use Rattle.fkv_epoch.specs.EpochWorld.{safe_of}
use Rattle.law_refine.specs.Below.fkv_session.Sessions.{SessionState}
use Rattle.law_refine.specs.Below.fkv_world.Opened.{HasBecome, IsOpenedWorld}
use Rattle.law_refine.specs.Below.fkv_world.Runs.{World, run}
use Rattle.law_refine.specs.Below.fkv_world.World.{Event}
use Rattle.law_refine.specs.Below.law_world.Guarded.Shows.{IsOpened, seen_by_guard}
use Rattle.law_refine.specs.Events.GhostEvents.{safe_at}
use Rattle.law_commit.specs.Phases.Projected.{ShowsSessions, sessions_opened}
use Rattle.law_commit.specs.PhaseVersions.{HasRisingPhase, RestsAreNext}
use Rattle.law_commit.specs.Phases.Staged.{HasStage, OpensAtRest}
use Rattle.law_commit.specs.Phases.Stamped.{SessionStamped, is_live}
use Rattle.law_commit.specs.Views.{View, sight_of}

-- the stamps of a session's views are the guard's loads of the phase
abbrev pub StampsAreLoads : Type 0
StampsAreLoads =
    (opening : World) (start : ℕ) (events : List Event) (session : ℕ) (first its : SessionState) → IsOpened opening.now start → HasBecome opening events session first its
    → SessionStamped (sight_of opening events session) ((seen_by_guard opening start events).past.loads session) ((seen_by_guard opening start events).past.in_force session) its

-- the view by which a live session goes was loaded after each safe epoch was raised
abbrev pub ViewsAreAboveSafe : Type 0
ViewsAreAboveSafe =
    (opening : World) (start : ℕ) (events : List Event) (session : ℕ) (first its : SessionState) (epoch : ℕ) → IsOpened opening.now start → HasBecome opening events session first its
    → is_live its ≡ true → epoch ≤ safe_of (run opening events).now.words → epoch < (sight_of opening events session).view.stamp

-- and so was the one that is coming
abbrev pub ComingIsAboveSafe : Type 0
ComingIsAboveSafe =
    (opening : World) (start : ℕ) (events : List Event) (session : ℕ) (first its : SessionState) (epoch : ℕ) (view : View) → IsOpened opening.now start → HasBecome opening events session first its
    → (sight_of opening events session).coming ≡ Some view → epoch ≤ safe_of (run opening events).now.words → epoch < view.stamp

-- the safe read-only offset is at or below the tail that each live session has seen with its phase
abbrev pub IsSafeBelowViews : World → List Event → Type 0
IsSafeBelowViews opening events =
    (session : ℕ) (first its : SessionState) → HasBecome opening events session first its → its.is_awake ≡ true → safe_at (run opening events).now ≤ (sight_of opening events session).view.tail

abbrev pub SafeIsBelowViews : Type 0
SafeIsBelowViews =
    (opening : World) (start : ℕ) (events : List Event) → IsOpened opening.now start → IsSafeBelowViews opening events

-- and the tail of the view that is coming to a session, awake or not
abbrev pub IsSafeBelowComing : World → List Event → Type 0
IsSafeBelowComing opening events =
    (session : ℕ) (first its : SessionState) (view : View) → HasBecome opening events session first its → (sight_of opening events session).coming ≡ Some view → safe_at (run opening events).now ≤ view.tail

abbrev pub SafeIsBelowComing : Type 0
SafeIsBelowComing =
    (opening : World) (start : ℕ) (events : List Event) → IsOpened opening.now start → IsSafeBelowComing opening events

-- a session is live where it is awake
abbrev pub LiveIsAwake : Type 0
LiveIsAwake =
    (opening : World) (events : List Event) (session : ℕ) (first its : SessionState) → HasBecome opening events session first its → is_live its ≡ its.is_awake

-- what is on paper shows each session as a life begins
abbrev pub OpeningShowsSessions : Type 0
OpeningShowsSessions =
    (opening : World) → ShowsSessions (sessions_opened opening.now) opening []

-- at each moment the store is at a stage of the commit that is next
abbrev pub CommitsGoByStages : Type 0
CommitsGoByStages =
    (opening : World) (start : ℕ) (events : List Event) → IsOpened opening.now start → IsOpenedWorld opening → OpensAtRest opening.now → HasStage (run opening events).now

-- the version of the phase word never falls
abbrev pub PhaseVersionNeverFalls : Type 0
PhaseVersionNeverFalls =
    (opening : World) (start : ℕ) (events : List Event) → IsOpened opening.now start → IsOpenedWorld opening → OpensAtRest opening.now → HasRisingPhase opening events

-- and the word says rest only of the version behind the newest finished commit's number
abbrev pub RestIsOfTheNextVersion : Type 0
RestIsOfTheNextVersion =
    (opening : World) (start : ℕ) (events : List Event) → IsOpened opening.now start → IsOpenedWorld opening → OpensAtRest opening.now → RestsAreNext opening events
