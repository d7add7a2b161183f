-- A world as its life begins.
use Rattle.std.specs.Prelude.{◌≡◌, ℕ, ◌==◌, if◌then◌else◌, false, List, [], ◌∷◌, length, Some, slice_get}
use Rattle.fkv_session.specs.Sessions as session
use Rattle.fkv_keeper.specs.KeeperRun as keeper
use Rattle.fkv_session.specs.SessionRun.{Telling, all_told}
use Rattle.fkv_session.specs.Replies.{effects_told}
use Rattle.fkv_map.specs.declared.history.HistoryEntry.{HistoryEntry}
use Rattle.fkv_world.specs.OwnEvents.{session_events}
use Rattle.fkv_world.specs.Past.{Effect, Traced, TraceEvent, Answered}
use Rattle.fkv_world.specs.Runs.{World, run}
use Rattle.fkv_world.specs.World.{Event, seat_at}

-- It goes on, nothing is past yet, there is a session for each seat of the store, and its keeper and all of its sessions are those of a store that was opened.
pub record IsOpenedWorld (w : World) : Type 0 where
  pub goes_on : w.now.crashed ≡ false
  pub no_history : w.past.history ≡ []
  pub no_trace : w.past.trace ≡ []
  pub no_calls : w.past.calls ≡ []
  pub seats : length w.now.sessions ≡ w.now.places.sessions
  pub keeper : keeper.IsOpened w.now.keeper
  pub sessions : (number : ℕ) (its : session.SessionState) → slice_get w.now.sessions number ≡ Some its → session.IsOpened its

-- In a life of such a world the session of a number has become this one.
pub record HasBecome (opening : World) (events : List Event) (number : ℕ) (first its : session.SessionState) : Type 0 where
  pub opened : IsOpenedWorld opening
  pub was : slice_get opening.now.sessions number ≡ Some first
  pub is_now : slice_get (run opening events).now.sessions number ≡ Some its

-- its answers in that life with the one that is coming, and the effects that it has told
abbrev pub life_told : World → List Event → ℕ → session.SessionState → List Telling
life_told opening events number first = all_told (seat_at opening.now number) first (session_events opening number events)

abbrev pub life_effects : World → List Event → ℕ → session.SessionState → List HistoryEntry
life_effects opening events number first = effects_told (seat_at opening.now number) first (session_events opening number events)

-- what a session has been answered, by what callers have seen, the newest first
abbrev pub answer_to : ℕ → TraceEvent → List Telling → List Telling
answer_to number (Answered session its) told = if session == number then its ∷ told else told
answer_to number event told = told

abbrev pub answers_of : ℕ → List Traced → List Telling
answers_of number [] = []
answers_of number (it ∷ before) = answer_to number it.its (answers_of number before)

-- the updates of a session that have taken effect, by the history, the newest first
abbrev pub effect_of : ℕ → HistoryEntry → List HistoryEntry → List HistoryEntry
effect_of number its before = if its.session == number then its ∷ before else before

abbrev pub effects_of : ℕ → List Effect → List HistoryEntry
effects_of number [] = []
effects_of number (it ∷ before) = effect_of number it.entry (effects_of number before)
