-- The phases of a commit, in their order, and what is told as it starts, goes on to wait-pending and finishes.
use Rattle.std.specs.Prelude.{◌≡◌, ◌≢◌, ℕ, zero, suc, ◌+◌, ◌<◌, ◌≤◌, false, ◌==◌, ◌&&◌, ◌⊎◌, if◌then◌else◌, List, [], ◌∷◌, ◌++◌, slice_get}
use Rattle.fkv_base.specs.Limits.{drain_slots, last_of}
use Rattle.fkv_base.specs.declared.faults.Fault.{Fault}
use Rattle.fkv_base.specs.declared.faults.Fault.TheVariants as fault
use Rattle.fkv_base.specs.declared.numbers.Addr.{Addr}
use Rattle.fkv_base.specs.declared.numbers.Serial.{Serial}
use Rattle.fkv_base.specs.declared.numbers.Version.{Version}
use Rattle.fkv_base.specs.declared.phases.Phase.TheVariants as phase
use Rattle.fkv_marks.specs.Window.{oldest}
use Rattle.fkv_words.specs.declared.phase_words.PhaseSaid.TheVariants.{Says}
use Rattle.fkv_words.specs.PhaseWords.{phase_said}
use Rattle.fkv_plane.specs.declared.actions.Action.TheVariants as act
use Rattle.fkv_plane.specs.declared.asks.Ask.{Ask}
use Rattle.fkv_plane.specs.declared.asks.Ask.TheVariants.{Load, Store, Swap, Cas, Put}
use Rattle.fkv_plane.specs.declared.places.SharedWord.TheVariants as one
use Rattle.fkv_plane.specs.declared.places.SessionWord.TheVariants as own
use Rattle.fkv_plane.specs.Places.{shared_place, session_place}
use Rattle.fkv_epoch.specs.Claiming.{phase_stored}
use Rattle.fkv_epoch.specs.Once.{Among}
use Rattle.fkv_base.specs.declared.commits.CommitKind.TheVariants.{Log}
use Rattle.fkv_commit.specs.declared.starting.StartAsked.{StartAsked}
use Rattle.fkv_commit.specs.declared.starting.Starting.TheVariants as start
use Rattle.fkv_commit.specs.declared.starting.StartAnswer.{StartAnswer}
use Rattle.fkv_commit.specs.declared.starting.StartAnswer.TheVariants as start_answer
use Rattle.fkv_commit.specs.declared.entering.Entering.TheVariants as enter
use Rattle.fkv_commit.specs.declared.entering.EnterAnswer.{EnterAnswer}
use Rattle.fkv_commit.specs.declared.entering.EnterAnswer.TheVariants as enter_answer
use Rattle.fkv_commit.specs.declared.seeking.Seeking.TheVariants as seek
use Rattle.fkv_commit.specs.declared.seeking.SeekAnswer.TheVariants as seek_answer
use Rattle.fkv_commit.specs.declared.waiting.Waiting.TheVariants as wait
use Rattle.fkv_commit.specs.declared.waiting.WaitAnswer.{WaitAnswer}
use Rattle.fkv_commit.specs.declared.waiting.WaitAnswer.TheVariants as wait_answer
use Rattle.fkv_commit.specs.declared.finishing.Finishing.TheVariants as finish
use Rattle.fkv_commit.specs.declared.finishing.FinishAnswer.TheVariants.{Finished}
use Rattle.fkv_commit.specs.Commits.{version_after}
use Rattle.fkv_commit.specs.Starting.{max_lost, is_lost_full, StartState, start_begun, start_ask, start_next}
use Rattle.fkv_commit.specs.Entering.{EnterState, enter_begun, enter_ask, enter_next}
use Rattle.fkv_commit.specs.Seeking.{SeekState}
use Rattle.fkv_commit.specs.Waiting.{WaitState, wait_begun, wait_ask, wait_next}
use Rattle.fkv_commit.specs.Finishing.{FinishState, finish_begun, finish_ask, finish_next, point_of}
use Rattle.fkv_commit.specs.Exchanges.{Exchange, exchange, run_of, exchanges, AreIdle, WereTaken, WasEpochLast, AreSlotsBehind, HoldsSlot, IsDeferred}
use Rattle.fkv_commit.specs.Points.{sought, seek_told}

-- the phase word said rest of this version
pub record SaidRest (number : Version) (told : List Exchange) : Type 0 where
  pub word : ℕ
  pub loaded : Among (exchange (Load (shared_place one.Phase)) word) told
  pub says : phase_said word ≡ Says phase.Rest number

-- a commit of this version may start, as far as its version, the ranges of lost records and the window of the checkpoint go
pub record MayStart (asked : StartAsked) (number : Version) (told : List Exchange) : Type 0 where
  pub rest : SaidRest number told
  pub follows : number.0 < last_of asked.class
  pub few_lost : is_lost_full asked number.0 ≡ false

-- A commit has begun: the phase was rest of a version that may start, a slot was held, and then prepare was stored, the tail loaded, and
-- in-progress deferred.
pub record HasBegun (asked : StartAsked) (number : Version) (first : Addr) (told : List Exchange) : Type 0 where
  pub slot : ℕ
  pub epoch : ℕ
  pub before : List Exchange
  pub held : HoldsSlot slot before
  pub may : MayStart asked number before
  pub store_reply : ℕ
  pub deferred : IsDeferred slot epoch (act.Phase phase.InProgress (version_after number))
      (exchange (Load (shared_place one.Tail)) first.0 ∷ exchange (Store (shared_place one.Phase) (phase_stored phase.Prepare number)) store_reply ∷ before) told

-- a log commit has more lost ranges than it can store, or it lies past the window of the checkpoint
abbrev pub HasNoRoom : StartAsked → ℕ → Type 0
HasNoRoom asked number = (max_lost < asked.lost) ⊎ (oldest asked.class asked.checkpoint.0 + 8189 < number)

-- the reason of a refusal was met
abbrev pub IsRefusalTrue : StartAsked → Fault → List Exchange → Type 0
IsRefusalTrue asked fault.CommitRunning told =
    (word : ℕ) × Among (exchange (Load (shared_place one.Phase)) word) told × ((number : Version) → phase_said word ≢ Says phase.Rest number)
IsRefusalTrue asked fault.VersionsSpent told = (number : Version) × (last_of asked.class ≤ number.0) × SaidRest number told
IsRefusalTrue asked fault.LostFull told = (number : Version) × (number.0 < last_of asked.class) × SaidRest number told × (asked.kind ≡ Log) × HasNoRoom asked number.0
IsRefusalTrue asked fault.EpochsSpent told = (number : Version) × MayStart asked number told × WasEpochLast told
IsRefusalTrue asked fault.DrainFull told = (number : Version) × MayStart asked number told × WereTaken drain_slots told
IsRefusalTrue asked why told = ⊥

-- where a start is refused nothing is changed, and the reason was met
abbrev pub IsStartEnd : StartAsked → StartAnswer → List Exchange → Type 0
IsStartEnd asked (start_answer.Begun number first) told = HasBegun asked number first told
IsStartEnd asked (start_answer.Refused why) told = AreIdle told × IsRefusalTrue asked why told
IsStartEnd asked start_answer.Idle told = ⊥

-- a slot was held, and wait-pending is deferred
pub record HasEntered (number : Version) (told : List Exchange) : Type 0 where
  pub slot : ℕ
  pub epoch : ℕ
  pub before : List Exchange
  pub held : HoldsSlot slot before
  pub deferred : IsDeferred slot epoch (act.Phase phase.WaitPending (version_after number)) before told

abbrev pub IsEnterEnd : Version → EnterAnswer → List Exchange → Type 0
IsEnterEnd number enter_answer.Entered told = HasEntered number told
IsEnterEnd number enter_answer.Idle told = ⊥
IsEnterEnd number enter_answer.DrainFull told = AreIdle told × WereTaken drain_slots told
IsEnterEnd number enter_answer.EpochsSpent told = AreIdle told × WasEpochLast told

-- the safe epoch was loaded, and flushed behind it
abbrev pub both_loaded : ℕ → ℕ → List Exchange
both_loaded safe flushed = exchange (Load (shared_place one.Flushed)) flushed ∷ exchange (Load (shared_place one.SafeEpoch)) safe ∷ []

-- It is answered that the log is flushed where the epoch of the last arming was safe, and flushed, loaded behind it, was at least the commit's
-- end; and that it isn't yet where one of the two was below.
abbrev pub IsWaitEnd : Addr → ℕ → WaitAnswer → List Exchange → Type 0
IsWaitEnd end epoch wait_answer.Flushed told = (safe : ℕ) × (flushed : ℕ) × (epoch ≤ safe) × (end.0 ≤ flushed) × (told ≡ both_loaded safe flushed)
IsWaitEnd end epoch wait_answer.NotYet told =
    ((safe : ℕ) × (safe < epoch) × (told ≡ exchange (Load (shared_place one.SafeEpoch)) safe ∷ []))
    ⊎ ((safe : ℕ) × (flushed : ℕ) × (epoch ≤ safe) × (flushed < end.0) × (told ≡ both_loaded safe flushed))
IsWaitEnd end epoch wait_answer.Idle told = ⊥

-- the durable words of the sessions below this one are stored, each as the session's point and no other word
abbrev pub AreDurable : List Serial → ℕ → List Exchange → Type 0
AreDurable points zero told = told ≡ []
AreDurable points (suc session) told =
    (reply : ℕ) × (before : List Exchange) × (told ≡ exchange (Store (session_place session own.Durable) (point_of (slice_get points session))) reply ∷ before) × AreDurable points session before

-- rest is stored behind all durable words, and nothing else
pub record HasFinished (number : Version) (sessions : ℕ) (points : List Serial) (told : List Exchange) : Type 0 where
  pub before : List Exchange
  pub durable : AreDurable points sessions before
  pub reply : ℕ
  pub its : told ≡ exchange (Store (shared_place one.Phase) (phase_stored phase.Rest (version_after number))) reply ∷ before

-- the phase words that an exchange stores, or defers
abbrev pub phases_of : Ask (Unit {0}) → ℕ → List ℕ
phases_of (Store place new) reply = if place == shared_place one.Phase then new ∷ [] else []
phases_of (Swap place new) reply = if place == shared_place one.Phase then new ∷ [] else []
phases_of (Cas place old new) reply = if reply == old && place == shared_place one.Phase then new ∷ [] else []
phases_of (Put slot (act.Phase its version)) reply = phase_stored its version ∷ []
phases_of ask reply = []

abbrev pub phases_told : List Exchange → List ℕ
phases_told [] = []
phases_told (its ∷ before) = phases_of its.ask its.reply ++ phases_told before

-- the phases of a commit, the last first
abbrev pub phases_of_commit : Version → List ℕ
phases_of_commit number =
    phase_stored phase.Rest (version_after number) ∷ phase_stored phase.WaitFlush (version_after number) ∷ phase_stored phase.WaitPending (version_after number)
    ∷ phase_stored phase.InProgress (version_after number) ∷ phase_stored phase.Prepare number ∷ []

abbrev pub started : StartState → StartAsked → List ℕ → StartState
started opening asked replies = run_of start_next (start_begun opening asked) replies

abbrev pub start_told : StartState → StartAsked → List ℕ → List Exchange
start_told opening asked replies = exchanges start_ask start_next (start_begun opening asked) replies

abbrev pub entered : EnterState → Version → List ℕ → EnterState
entered opening number replies = run_of enter_next (enter_begun opening number) replies

abbrev pub enter_told : EnterState → Version → List ℕ → List Exchange
enter_told opening number replies = exchanges enter_ask enter_next (enter_begun opening number) replies

abbrev pub waited : Addr → ℕ → List ℕ → WaitState
waited end epoch replies = run_of wait_next (wait_begun end epoch) replies

abbrev pub wait_told : Addr → ℕ → List ℕ → List Exchange
wait_told end epoch replies = exchanges wait_ask wait_next (wait_begun end epoch) replies

abbrev pub finished : FinishState → Version → List ℕ → FinishState
finished opening number replies = run_of finish_next (finish_begun opening number) replies

abbrev pub finish_told : List Serial → FinishState → Version → List ℕ → List Exchange
finish_told points opening number replies = exchanges (finish_ask points) finish_next (finish_begun opening number) replies

abbrev pub StartsEndRight : Type 0
StartsEndRight = (opening : StartState) (asked : StartAsked) (replies : List ℕ) (its : StartAnswer) → (started opening asked replies).step ≡ start.Ended its
    → IsStartEnd asked its (start_told opening asked replies)

abbrev pub EntersEndRight : Type 0
EntersEndRight = (opening : EnterState) (number : Version) (replies : List ℕ) (its : EnterAnswer) → (entered opening number replies).step ≡ enter.Ended its
    → IsEnterEnd number its (enter_told opening number replies)

abbrev pub WaitsEndRight : Type 0
WaitsEndRight = (end : Addr) (epoch : ℕ) (replies : List ℕ) (its : WaitAnswer) → (waited end epoch replies).step ≡ wait.Ended its → IsWaitEnd end epoch its (wait_told end epoch replies)

abbrev pub FinishesEndRight : Type 0
FinishesEndRight = (opening : FinishState) (number : Version) (points : List Serial) (replies : List ℕ) → (finished opening number replies).step ≡ finish.Ended Finished
    → HasFinished number opening.sessions points (finish_told points opening number replies)

-- whatever is replied, a slot is sought and held only where the epoch was loaded before and was below its last
abbrev pub EpochComesFirst : Type 0
EpochComesFirst =
    ((opening : StartState) (asked : StartAsked) (replies : List ℕ) → AreSlotsBehind (start_told opening asked replies))
    × ((opening : EnterState) (number : Version) (replies : List ℕ) → AreSlotsBehind (enter_told opening number replies))
    × ((opening : SeekState) (number : Version) (floor : List Serial) (replies : List ℕ) → AreSlotsBehind (seek_told opening number floor replies))

-- the four machines of a commit, each from its start to its end
pub record WholeCommit (number : Version) : Type 0 where
  pub starter : StartState
  pub asked : StartAsked
  pub start_replies : List ℕ
  pub first : Addr
  pub begun : (started starter asked start_replies).step ≡ start.Ended (start_answer.Begun number first)
  pub enterer : EnterState
  pub enter_replies : List ℕ
  pub has_entered : (entered enterer number enter_replies).step ≡ enter.Ended enter_answer.Entered
  pub seeker : SeekState
  pub floor : List Serial
  pub seek_replies : List ℕ
  pub end : Addr
  pub epoch : ℕ
  pub taken : (sought seeker number floor seek_replies).step ≡ seek.Ended (seek_answer.Taken end epoch)
  pub finisher : FinishState
  pub finish_replies : List ℕ
  pub has_finished : (finished finisher number finish_replies).step ≡ finish.Ended Finished

-- what they have told, one after another; the points that are finished with are those that were taken
abbrev pub commit_told : (number : Version) → WholeCommit number → List Exchange
commit_told number c = finish_told (sought c.seeker number c.floor c.seek_replies).points c.finisher number c.finish_replies ++ (seek_told c.seeker number c.floor c.seek_replies ++ (enter_told c.enterer number c.enter_replies ++ start_told c.starter c.asked c.start_replies))

-- a commit goes through all its phases in order, each once
abbrev pub PhasesInOrder : Type 0
PhasesInOrder = (number : Version) (c : WholeCommit number) → phases_told (commit_told number c) ≡ phases_of_commit number
