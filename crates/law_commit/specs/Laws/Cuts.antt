-- What the laws of `cuts` say.
use Rattle.std.specs.Prelude.{◌≡◌, ◌≢◌, ◌<◌, ◌≤◌, ◌-◌, ℕ, List, Some, false}
use Rattle.law_refine.specs.Below.fkv_commit.Cuts.{serial_said}
use Rattle.fkv_plane.specs.declared.places.SessionWord.TheVariants.{Durable}
use Rattle.fkv_plane.specs.Places.{session_place}
use Rattle.law_refine.specs.Below.fkv_session.InOrder.{AreToldInOrder, IsOwedOrOneMore, owing_place, owing_told, serial_leaving}
use Rattle.law_refine.specs.Below.fkv_session.Sessions.{SessionState, is_busy}
use Rattle.law_refine.specs.Below.fkv_session.Words.{AreMarksTold, IsCutAsleep, IsMark, serial_left}
use Rattle.law_refine.specs.Below.fkv_session.CatchCause.TheVariants.{Wakes}
use Rattle.law_refine.specs.Below.fkv_session.Sitting.TheVariants.{CatchesUp, Leaves, StoresOwing}
use Rattle.law_refine.specs.Below.fkv_world.Opened.{HasBecome, IsOpenedWorld}
use Rattle.law_refine.specs.Below.fkv_world.OwnEvents.{session_events}
use Rattle.law_refine.specs.Below.fkv_world.Runs.{World, run}
use Rattle.law_refine.specs.Below.fkv_world.World.{Event, seat_at}
use Rattle.law_refine.specs.Below.law_world.Guarded.Shows.{IsOpened}
use Rattle.law_commit.specs.Accepted.{point}
use Rattle.law_commit.specs.Phases.Staged.{OpensAtRest}
use Rattle.law_commit.specs.Cuts.{HasItsWords, IsCutPlace, ShowCuts, ShowsDurable, durable_at, life_leaving, serial_before, stored_by_keeper, stored_by_session, word_now}

-- a session's cut words and its owing word are what it has stored there last
abbrev pub MarksStand : Type 0
MarksStand =
    (opening : World) (events : List Event) (session : ℕ) (first its : SessionState) (place : ℕ) → HasBecome opening events session first its
    → HasItsWords opening.now → IsMark session place
    → word_now opening events place ≡ stored_by_session opening session first events place

-- and its durable word is what the keeper has
abbrev pub DurableWordsStand : Type 0
DurableWordsStand =
    (opening : World) (events : List Event) (session : ℕ) → IsOpenedWorld opening → HasItsWords opening.now → session < opening.now.places.sessions
    → word_now opening events (session_place session Durable) ≡ stored_by_keeper opening events (session_place session Durable)

-- between calls the words tell where the session has left the version before
abbrev pub MarksAreTold : Type 0
MarksAreTold =
    (opening : World) (events : List Event) (session : ℕ) (first its : SessionState) (serial : ℕ) → HasBecome opening events session first its
    → HasItsWords opening.now
    → is_busy its.step ≡ false
    → serial_left (seat_at opening.now session) first (session_events opening session events) ≡ Some serial
    → AreMarksTold (seat_at opening.now session) its (λ place. word_now opening events place) serial

-- a sleeper's cut word shows its serial, but in a wake
abbrev pub SleepersShowTheirCut : Type 0
SleepersShowTheirCut =
    (opening : World) (events : List Event) (session : ℕ) (first its : SessionState) → HasBecome opening events session first its
    → HasItsWords opening.now
    → its.is_awake ≡ false
    → its.step ≢ CatchesUp Wakes
    → IsCutAsleep (seat_at opening.now session) its (λ place. word_now opening events place)

-- and so it does before the session leaves for its sleep
abbrev pub LeaversShowTheirCut : Type 0
LeaversShowTheirCut =
    (opening : World) (events : List Event) (session : ℕ) (first its : SessionState) → HasBecome opening events session first its
    → HasItsWords opening.now
    → its.step ≡ Leaves
    → IsCutAsleep (seat_at opening.now session) its (λ place. word_now opening events place)

-- in the middle of a call all is told but what is about to be stored
abbrev pub MarksAreToldInOrder : Type 0
MarksAreToldInOrder =
    (opening : World) (events : List Event) (session : ℕ) (first its : SessionState) (serial : ℕ) → HasBecome opening events session first its
    → HasItsWords opening.now
    → serial_leaving (seat_at opening.now session) first (session_events opening session events) ≡ Some serial
    → AreToldInOrder (seat_at opening.now session) its (λ place. word_now opening events place) serial

-- a poll finds the owing word one too high at most
abbrev pub OwingIsOneTooHighAtMost : Type 0
OwingIsOneTooHighAtMost =
    (opening : World) (events : List Event) (session : ℕ) (first its : SessionState) (index serial : ℕ) → HasBecome opening events session first its
    → HasItsWords opening.now
    → its.step ≡ StoresOwing index
    → serial_left (seat_at opening.now session) first (session_events opening session events) ≡ Some serial
    → IsOwedOrOneMore (word_now opening events (owing_place (seat_at opening.now session))) (owing_told its)

-- so it is from the first moment on, if it was so as the life began
abbrev pub MarksAreAlwaysTold : Type 0
MarksAreAlwaysTold =
    (opening : World) (events : List Event) (session : ℕ) (first its : SessionState) → HasBecome opening events session first its
    → HasItsWords opening.now → ShowCuts opening.now
    → AreToldInOrder (seat_at opening.now session) its (λ place. word_now opening events place) (life_leaving opening session first events its)

-- neither cut word shows a serial above the session's
abbrev pub CutsSayNoLaterSerial : Type 0
CutsSayNoLaterSerial =
    (opening : World) (events : List Event) (session : ℕ) (first its : SessionState) (place : ℕ) → HasBecome opening events session first its
    → HasItsWords opening.now → ShowCuts opening.now → IsCutPlace session place
    → serial_said (word_now opening events place) ≤ its.serial

-- the serial at which a session has left the version before is its point of that version
abbrev pub LeftAtItsPoint : Type 0
LeftAtItsPoint =
    (opening : World) (start : ℕ) (events : List Event) (session : ℕ) (first its : SessionState) → HasBecome opening events session first its
    → IsOpened opening.now start → OpensAtRest opening.now
    → serial_before (seat_at opening.now session) first (session_events opening session events) ≡ point opening events session (its.seen.version.0 - 1)

-- each durable word shows a point of the newest finished commit, or of the one whose words are stored
abbrev pub DurableWordsShowPoints : Type 0
DurableWordsShowPoints =
    (opening : World) (events : List Event) (session : ℕ) → IsOpenedWorld opening → HasItsWords opening.now → ShowsDurable opening.now
    → session < opening.now.places.sessions
    → word_now opening events (session_place session Durable) ≡ durable_at (run opening events).now.keeper (run opening events).now.keeper.step session
