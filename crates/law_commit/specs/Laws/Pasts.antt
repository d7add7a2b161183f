-- What the laws of `laws` say.
use Rattle.std.specs.Prelude.{◌≡◌, ◌⊎◌, ◌+◌, ◌≤◌, ◌∷◌, ℕ, Bool, List, [], length}
use Rattle.fkv_base.specs.declared.shapes.Shape.{Shape}
use Rattle.law_refine.specs.Below.fkv_keeper.TheKeeping.TheVariants.{Finishes}
use Rattle.law_refine.specs.Below.fkv_keeper.Keeping.{KeeperState, come_to}
use Rattle.law_refine.specs.Below.fkv_session.OwnTurns.{OwnTurnState, own_turn_ask}
use Rattle.law_refine.specs.Below.fkv_session.Sessions.{SessionState}
use Rattle.law_refine.specs.Below.law_world.Standing.Opening.{AreNumbersInTurn}
use Rattle.law_refine.specs.Below.fkv_world.Opened.{HasBecome, IsOpenedWorld}
use Rattle.law_refine.specs.Below.fkv_world.OwnEvents.{keeper_events, session_events}
use Rattle.law_refine.specs.Below.fkv_world.Runs.{World, run}
use Rattle.law_refine.specs.Below.fkv_world.World.{Event, KeeperMoves, seat_at}
use Rattle.law_refine.specs.Below.law_world.Guarded.Shows.{IsOpened}
use Rattle.law_commit.specs.Accepted.{HasRisingVersion, NeverFall, point, versions_accepted}
use Rattle.law_commit.specs.LastSerials.{serial_at}
use Rattle.law_commit.specs.BegunCommits.{AreInTurn}
use Rattle.law_commit.specs.HeldCommits.{AtKeeping}
use Rattle.law_commit.specs.FinishedCommits.{commits_finished, commits_told, told_of}
use Rattle.law_commit.specs.PhaseStores.{SparesPhase, StoresClaimed, StoresItsPhase, phase_at}
use Rattle.law_commit.specs.PhaseVersions.{phase_version}
use Rattle.law_commit.specs.Phases.Staged.{OpensAtRest}
use Rattle.law_commit.specs.PrefixPast.{prefix_past}
use Rattle.law_commit.specs.Views.{IsComing, IsSeenAs, IsSightAfter, sight_of}
use Rattle.law_commit.specs.WorkedRuns.{IsWorkedPast}
use Rattle.law_commit.specs.WrittenCommits.{NewestIsWritten, life_told}
use Rattle.law_refine.specs.Below.law_world.Keeper.Lives.{life_writing}

-- a session's serial counts its updates
abbrev pub SerialsCountUpdates : Type 0
SerialsCountUpdates =
    (opening : World) (events : List Event) (session : ℕ) (first its : SessionState) → HasBecome opening events session first its
    → its.serial ≡ serial_at opening.now session + length (versions_accepted opening events session)

-- their versions never fall, and none is above the session's
abbrev pub VersionsNeverFall : Type 0
VersionsNeverFall =
    (opening : World) (start : ℕ) (events : List Event) (session : ℕ) (first its : SessionState) → HasBecome opening events session first its
    → IsOpened opening.now start → OpensAtRest opening.now
    → NeverFall its.seen.version.0 (versions_accepted opening events session)

-- a session's serial is its point of each version from its own on
abbrev pub SerialIsThePoint : Type 0
SerialIsThePoint =
    (opening : World) (start : ℕ) (events : List Event) (session : ℕ) (first its : SessionState) (version : ℕ) → HasBecome opening events session first its
    → IsOpened opening.now start → OpensAtRest opening.now
    → its.seen.version.0 ≤ version
    → point opening events session version ≡ its.serial

-- the version that a session goes by never falls
abbrev pub ItsVersionNeverFalls : Type 0
ItsVersionNeverFalls =
    (opening : World) (start : ℕ) (events : List Event) (session : ℕ) (first its : SessionState) → HasBecome opening events session first its
    → IsOpened opening.now start → OpensAtRest opening.now
    → HasRisingVersion (seat_at opening.now session) first (session_events opening session events)

-- and is never above that of the phase word
abbrev pub ItsVersionIsNotAhead : Type 0
ItsVersionIsNotAhead =
    (opening : World) (start : ℕ) (events : List Event) (session : ℕ) (first its : SessionState) → HasBecome opening events session first its
    → IsOpened opening.now start → OpensAtRest opening.now
    → its.seen.version.0 ≤ phase_version (run opening events).now.words

-- a session goes by the phase and the version of its view
abbrev pub GoesByItsView : Type 0
GoesByItsView =
    (opening : World) (events : List Event) (session : ℕ) (first its : SessionState) → HasBecome opening events session first its
    → IsSeenAs (sight_of opening events session).view its.seen

-- one that catches up takes up those of the view that is coming
abbrev pub TakesUpWhatIsComing : Type 0
TakesUpWhatIsComing =
    (opening : World) (events : List Event) (session : ℕ) (first its : SessionState) → HasBecome opening events session first its
    → IsComing (sight_of opening events session) its its.step

-- a view has the epoch and the tail of the moment at which it came
abbrev pub ViewsAreStamped : Type 0
ViewsAreStamped =
    (opening : World) (events : List Event) (event : Event) (session : ℕ)
    → IsSightAfter (run opening events).now.words (sight_of opening events session) (sight_of opening (event ∷ events) session)

-- The commits that have begun are as the step says to which the keeper has come: its own, and the writes where they rest.
abbrev pub BegunAreAsKept : Type 0
BegunAreAsKept =
    (opening : World) (events : List Event) → IsOpenedWorld opening
    → AtKeeping (prefix_past opening events).begun (run opening events).now.keeper (come_to (run opening events).now.keeper)

-- where a commit's words are stored it says what was written
abbrev pub NewestIsAsWritten : Type 0
NewestIsAsWritten =
    (opening : World) (events : List Event) → IsOpenedWorld opening
    → (run opening events).now.keeper.step ≡ Finishes
    → NewestIsWritten opening.now.shape (life_told opening events) (life_writing opening events) (run opening events).now.keeper.last (prefix_past opening events).begun

-- the commits that have begun come one behind the other
abbrev pub BegunAreInTurn : Type 0
BegunAreInTurn =
    (opening : World) (start : ℕ) (events : List Event) → IsOpenedWorld opening → IsOpened opening.now start → OpensAtRest opening.now
    → AreInTurn (prefix_past opening events).begun

-- each that begins has the number behind the newest finished one's
abbrev pub NumbersAreInTurn : Type 0
NumbersAreInTurn =
    (opening : World) (start : ℕ) (events : List Event) → IsOpenedWorld opening → IsOpened opening.now start → OpensAtRest opening.now
    → AreNumbersInTurn opening.now.shape opening.now.places opening.now.keeper (keeper_events opening events)

-- those that are finished are the opening's and those that were told so
abbrev pub FinishedAreTold : Type 0
FinishedAreTold =
    (opening : World) (events : List Event) → IsOpenedWorld opening
    → commits_finished (prefix_past opening events).begun ≡ commits_told (run opening events).past.trace (told_of opening.now.keeper.last ∷ [])

-- a step of the keeper stores the phase that it may store, or none
abbrev pub KeeperStoresItsPhase : Type 0
KeeperStoresItsPhase =
    (opening : World) (events : List Event) (granted done : Bool) → IsOpenedWorld opening
    → StoresItsPhase (run opening events).now.keeper (phase_at (run opening events).now) (phase_at (run opening (KeeperMoves granted done ∷ events)).now)

-- a session in its own turn stores one that its claimed action says, or none
abbrev pub SessionsStoreClaimedPhases : Type 0
SessionsStoreClaimedPhases =
    (shape : Shape) (its : OwnTurnState) → SparesPhase (own_turn_ask shape its) ⊎ StoresClaimed shape its

-- the past of that run, of any keeper and sessions
abbrev pub PastIsWorked : Type 0
PastIsWorked =
    (keeper : KeeperState) (one other : SessionState) → IsWorkedPast keeper one other
