-- What each step for a commit is to the guard: the events of the actor of this number, the newest first.
use Rattle.std.specs.Prelude.{ℕ, List, [], ◌∷◌, slice_get}
use Rattle.fkv_base.specs.declared.numbers.Serial.{Serial}
use Rattle.fkv_base.specs.declared.phases.Phase.TheVariants.{Rest, Prepare, WaitFlush}
use Rattle.fkv_plane.specs.declared.asks.Ask.{Ask}
use Rattle.fkv_plane.specs.declared.asks.Ask.TheVariants.{Done}
use Rattle.fkv_plane.specs.declared.places.SessionWord.TheVariants as own
use Rattle.fkv_plane.specs.declared.places.SharedWord.TheVariants as one
use Rattle.fkv_plane.specs.Places.{shared_place, session_place}
use Rattle.fkv_epoch.specs.Claiming.{phase_stored}
use Rattle.fkv_epoch.specs.EpochWorld.{ToRaise}
use Rattle.fkv_commit.specs.declared.deferring.DeferAnswer.{DeferAnswer}
use Rattle.fkv_commit.specs.declared.deferring.DeferAnswer.TheVariants.{Held}
use Rattle.fkv_commit.specs.declared.deferring.Deferring.{Deferring}
use Rattle.fkv_commit.specs.declared.deferring.Deferring.TheVariants as defer
use Rattle.fkv_commit.specs.declared.entering.Entering.{Entering}
use Rattle.fkv_commit.specs.declared.entering.Entering.TheVariants as enter
use Rattle.fkv_commit.specs.declared.finishing.Finishing.{Finishing}
use Rattle.fkv_commit.specs.declared.finishing.Finishing.TheVariants as finish
use Rattle.fkv_commit.specs.declared.seeking.Seeking.{Seeking}
use Rattle.fkv_commit.specs.declared.seeking.Seeking.TheVariants as seek
use Rattle.fkv_commit.specs.declared.starting.Starting.{Starting}
use Rattle.fkv_commit.specs.declared.starting.Starting.TheVariants as start
use Rattle.fkv_commit.specs.Commits.{version_after}
use Rattle.fkv_commit.specs.Deferring.{action_of, defer_ask, defer_next}
use Rattle.fkv_commit.specs.Entering.{EnterState}
use Rattle.fkv_commit.specs.Finishing.{FinishState, point_of}
use Rattle.fkv_commit.specs.Seeking.{SeekState, seek_next}
use Rattle.fkv_commit.specs.Starting.{StartState, start_next}
use Rattle.fkv_flush.specs.GuardWorld.{GuardEvent, Begins, Resumes, Moves, RaisesReadOnly, RaisesFor, Changes, ToDo}

-- a deferral raises the epoch for its action, and arms the slot
abbrev pub defer_events : ℕ → Deferring → List GuardEvent
defer_events a (defer.Raises its) = RaisesFor a (action_of its) ∷ []
defer_events a step = Moves a ∷ []

-- a part that comes to seek a slot begins to raise
abbrev pub start_begins : ℕ → Starting → List GuardEvent
start_begins a (start.Seeks number) = Begins a (ToDo ToRaise) ∷ []
start_begins a step = []

abbrev pub enter_begins : ℕ → Entering → List GuardEvent
enter_begins a enter.Seeks = Begins a (ToDo ToRaise) ∷ []
enter_begins a step = []

abbrev pub seek_begins : ℕ → Seeking → List GuardEvent
seek_begins a seek.SeeksSlot = Begins a (ToDo ToRaise) ∷ []
seek_begins a step = []

-- a commit starts
unfoldable pub starting_events : ℕ → StartState → Starting → ℕ → List GuardEvent
starting_events a s start.LoadsPhase reply = start_begins a (start_next (record s { step = start.LoadsPhase }) reply).step
starting_events a s (start.Seeks number) reply = Moves a ∷ []
starting_events a s (start.StoresPrepare number) reply = Changes a (shared_place one.Phase) (phase_stored Prepare number) ∷ []
starting_events a s (start.LoadsTail number) reply = Resumes a ∷ []
starting_events a s (start.Defers number first) reply = defer_events a s.defer.step
starting_events a s step reply = []

-- a slot that wait-pending is deferred in is held with nothing stored before
abbrev pub entered_events : ℕ → Ask DeferAnswer → List GuardEvent
entered_events a (Done Held) = Resumes a ∷ Moves a ∷ []
entered_events a ask = Moves a ∷ []

unfoldable pub entering_events : ℕ → EnterState → Entering → ℕ → List GuardEvent
entering_events a s enter.Seeks reply = entered_events a (defer_ask (defer_next s.defer reply))
entering_events a s enter.Defers reply = defer_events a s.defer.step
entering_events a s step reply = []

-- its points are sought
unfoldable pub seeking_events : ℕ → SeekState → Seeking → ℕ → List GuardEvent
seeking_events a s (seek.LoadsOwing session) reply = seek_begins a (seek_next (record s { step = seek.LoadsOwing session }) reply).step
seeking_events a s seek.SeeksSlot reply = Moves a ∷ []
seeking_events a s seek.StoresWaitFlush reply = Changes a (shared_place one.Phase) (phase_stored WaitFlush (version_after s.number)) ∷ []
seeking_events a s (seek.RaisesReadOnly end) reply = Resumes a ∷ RaisesReadOnly a end.0 ∷ []
seeking_events a s (seek.Defers end) reply = defer_events a s.defer.step
seeking_events a s step reply = []

-- the durable words are stored, and rest
unfoldable pub finishing_events : ℕ → List Serial → FinishState → Finishing → List GuardEvent
finishing_events a points s (finish.StoresDurable session) = Changes a (session_place session own.Durable) (point_of (slice_get points session)) ∷ []
finishing_events a points s finish.StoresRest = Changes a (shared_place one.Phase) (phase_stored Rest (version_after s.number)) ∷ []
finishing_events a points s step = []
