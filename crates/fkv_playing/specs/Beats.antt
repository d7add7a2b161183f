-- A beat of a play: one step of the engine, what it tells, and what is printed of it.
use Rattle.std.specs.Prelude.{◌≡◌, ℕ, Bool, true, false, List, [], ◌∷◌, ◌++◌, Option, Some, None, Result, Ok, Err}
use Rattle.fkv_base.specs.declared.commits.CommitKind.TheVariants.{Full}
use Rattle.fkv_base.specs.declared.faults.Fault.{Fault}
use Rattle.fkv_core.specs.Showing.{effect_of}
use Rattle.fkv_core.specs.Worlds.{WorldModel}
use Rattle.fkv_core.specs.declared.events.Event as events
use Rattle.fkv_core.specs.declared.events.Event.TheVariants as event
use Rattle.fkv_core.specs.declared.events.Told.{Told}
use Rattle.fkv_core.specs.declared.events.Told.TheVariants as told
use Rattle.fkv_keeper.specs.declared.answers.Finished.{Finished}
use Rattle.fkv_keeper.specs.declared.answers.Turn as turns
use Rattle.fkv_map.specs.declared.history.HistoryEntry.{HistoryEntry}
use Rattle.fkv_map.specs.declared.operations.Call.{Call}
use Rattle.fkv_map.specs.declared.operations.Call.TheVariants.{Refresh}
use Rattle.fkv_world.specs.World.{Now}
use Rattle.fkv_playing.specs.Players.{PlayerState, is_struck}
use Rattle.fkv_playing.specs.Seats.{SeatState, seats_answered}
use Rattle.fkv_playing.specs.Texts.{text_heard}
use Rattle.fkv_playing.specs.declared.calls.ActorCall.{ActorCall}
use Rattle.fkv_playing.specs.declared.calls.ActorCall.TheVariants.{Session, Commit, Trim, Turn}
use Rattle.fkv_playing.specs.declared.calls.Outcome.{Outcome}
use Rattle.fkv_playing.specs.declared.calls.Outcome.TheVariants.{GoesOn, Answered, Closed, Struck}
use Rattle.fkv_playing.specs.declared.calls.Stage.{Stage}
use Rattle.fkv_playing.specs.declared.calls.Stage.TheVariants.{Begins, Moves}
use Rattle.fkv_playing.specs.declared.calls.Telling.{Telling}

-- in a turn the keeper moves so, where turns sweep and where they don't
abbrev pub turn_move : Bool → events.Event
turn_move true = event.SweepMove
turn_move false = event.KeeperMove

-- A call is begun by its own event, and goes on by its actor's moves. A trim is a full commit.
abbrev pub event_of : Bool → Stage → ActorCall → events.Event
event_of sweeps Begins (Session number call) = event.Call number call
event_of sweeps Begins (Commit kind) = event.Commit kind
event_of sweeps Begins Trim = event.Commit Full
event_of sweeps Begins Turn = event.Turn
event_of sweeps Moves (Session number call) = event.Move number
event_of sweeps Moves Turn = turn_move sweeps
event_of sweeps Moves other = event.KeeperMove

-- Turns sweep behind a trim, up to the next other commit.
abbrev pub sweeps_behind : Stage → ActorCall → Bool → Bool
sweeps_behind Begins Trim sweeps = true
sweeps_behind Begins (Commit kind) sweeps = false
sweeps_behind stage other sweeps = sweeps

-- what a session was asked; of the keeper's calls nothing is looked at
abbrev pub asked_of : ActorCall → Call
asked_of (Session number call) = call
asked_of other = Refresh

-- a turn closes a finish where it has finished a commit, or is refused
abbrev pub outcome_of_finished : Option Finished → Outcome
outcome_of_finished (Some commit) = Closed
outcome_of_finished None = Answered

abbrev pub outcome_of_turn : Result turns.Turn Fault → Outcome
outcome_of_turn (Ok turn) = outcome_of_finished turn.finished
outcome_of_turn (Err fault) = Closed

abbrev pub outcome_of_told : Told → Outcome
outcome_of_told (told.Session number answer) = Answered
outcome_of_told (told.Commit begun) = Answered
outcome_of_told (told.Turn its) = outcome_of_turn its

-- where a crash has struck nobody hears what was told
abbrev pub outcome_of : Bool → Option Told → Outcome
outcome_of true its = Struck
outcome_of false None = GoesOn
outcome_of false (Some its) = outcome_of_told its

abbrev pub heard : Bool → Option Told → Option Told
heard true its = None
heard false its = its

-- the seats behind what was heard
abbrev pub seats_behind : Call → List SeatState → Option Told → List SeatState
seats_behind call seats (Some (told.Session number answer)) = seats_answered number call answer seats
seats_behind call seats other = seats

-- the update whose effect is told behind a session's move, as a list
abbrev pub listed : Option HistoryEntry → List HistoryEntry
listed None = []
listed (Some entry) = entry ∷ []

abbrev pub effects_behind : Bool → events.Event → Now → List HistoryEntry
effects_behind true (event.Move number) n = listed (effect_of n number)
effects_behind keeps other n = []

-- Of what an event has told, where no crash has struck, this is printed and noted.
pub record IsHeard {D : Type 0} (broken : D → Bool) (telling : Telling) (call : Call) (its : Option Told) (before after : PlayerState D) (outcome : Outcome) (text : List ℕ) : Type 0 where
  pub same : after ≡ record before { seats = after.seats }
  pub ends : outcome ≡ outcome_of (is_struck before.waits (broken before.world.device)) its
  pub says : text ≡ text_heard telling call before.seats before.world.now (heard (is_struck before.waits (broken before.world.device)) its)
  pub seats : after.seats ≡ seats_behind call before.seats (heard (is_struck before.waits (broken before.world.device)) its)

-- One step of the engine with the event of this call's stage; of what it told, where no crash has struck, this is printed and noted.
pub record IsBeat {D : Type 0} (engine : events.Event → WorldModel D → WorldModel D → Option Told → Bool → Type 0) (telling : Telling) (call : ActorCall) (stage : Stage) (before after : PlayerState D) (outcome : Outcome) (text : List ℕ) : Type 0 where
  pub its : Option Told
  pub broken : Bool
  pub step : engine (event_of before.sweeps stage call) before.world after.world its broken
  pub same : after ≡ record before { world = after.world; seats = after.seats; history = after.history; sweeps = after.sweeps }
  pub ends : outcome ≡ outcome_of (is_struck before.waits broken) its
  pub says : text ≡ text_heard telling (asked_of call) before.seats after.world.now (heard (is_struck before.waits broken) its)
  pub seats : after.seats ≡ seats_behind (asked_of call) before.seats (heard (is_struck before.waits broken) its)
  pub history : after.history ≡ before.history ++ effects_behind before.keeps_history (event_of before.sweeps stage call) after.world.now
  pub sweeps : after.sweeps ≡ sweeps_behind stage call before.sweeps
