-- A call of a session in the list of events, and its answer.
use Rattle.std.specs.Prelude.{◌≡◌, ◌⊎◌, ⊤, ℕ, false, List, [], ◌∷◌, ◌++◌, length, Some, None, slice_get}
use Rattle.atomic_table.specs.Seated.{TableId}
use Rattle.atomic_table.specs.Table.{Me}
use Rattle.fkv_base.specs.Limits.{drain_slots}
use Rattle.fkv_map.specs.declared.operations.Call.{Call}
use Rattle.fkv_session.specs.declared.answers.Answer.{Answer}
use Rattle.fkv_session.specs.declared.answers.Finished.{Finished}
use Rattle.fkv_session.specs.declared.answers.Told.{Told}
use Rattle.fkv_session.specs.Answers.{IsAnswerTold}
use Rattle.fkv_session.specs.SessionRun.{Telling, telling}
use Rattle.fkv_session.specs.Sessions.{SessionState, Sitter, is_busy}
use Rattle.law_world.specs.Below.fkv_world.Past.{Traced, Answered}
use Rattle.law_world.specs.Below.fkv_world.Runs.{World}
use Rattle.fkv_seats.specs.declared.views.Role.TheVariants.{Sits}
use Rattle.fkv_seats.specs.Rule.{desk_slot, led, speaks}
use Rattle.fkv_table.specs.declared.happenings.Happening.{Happening}
use Rattle.fkv_table.specs.declared.happenings.Happening.TheVariants.{Calls, Moves}
use Rattle.fkv_table.specs.Desks.{Slot, Knows, IsAtDesk}
use Rattle.fkv_table.specs.Events.{actor_of}
use Rattle.fkv_table.specs.Openings.{IsTableOf}
use Rattle.fkv_table.specs.Planes.{plane}
use Rattle.fkv_table.specs.Sits.{Rests}

-- of this session nothing but its steps
abbrev pub OnlyMoves : ℕ → List Happening → Type 0
OnlyMoves number [] = ⊤
OnlyMoves number (its ∷ before) = ((its ≡ Moves number) ⊎ (speaks (Sits number) (actor_of its) ≡ false)) × OnlyMoves number before

-- none of this session
abbrev pub AreOthers : ℕ → List Happening → Type 0
AreOthers number [] = ⊤
AreOthers number (its ∷ before) = (speaks (Sits number) (actor_of its) ≡ false) × AreOthers number before

-- Behind a call the list has its start, once, behind all that had been seen; and from there on of this session nothing but its steps.
pub record HasCalled (number : ℕ) (call : Call) (seen seen' : List Happening) : Type 0 where
  pub steps : List Happening
  pub only : OnlyMoves number steps
  pub others : List Happening
  pub quiet : AreOthers number others
  pub so : seen' ≡ steps ++ Calls number call ∷ (others ++ seen)

pub record HasStepped (number : ℕ) (seen seen' : List Happening) : Type 0 where
  pub steps : List Happening
  pub only : OnlyMoves number steps
  pub so : seen' ≡ steps ++ seen

-- the newest that callers see of a world is this answer of a session
pub record IsToldLast (w : World) (number : ℕ) (its : Telling) : Type 0 where
  pub before : List Traced
  pub newest : w.past.trace ≡ record { its = Answered number its; effects = length w.past.history } ∷ before

-- so it is with the answer to a call
pub record IsAnsweredLast (w : World) (number : ℕ) (answer : Answer) : Type 0 where
  pub its : Told
  pub finished : List Finished
  pub last : IsToldLast w number (telling its finished)
  pub told : IsAnswerTold its finished answer

module _ {K : Type 0} (at : K → World) where
  -- behind what has been seen the session has no call in hand
  abbrev pub WasIdle : K → List Happening → ℕ → Type 0
  WasIdle key seen number = (s : SessionState) → slice_get (led (plane at) (at key) seen).now.sessions number ≡ Some s → is_busy s.step ≡ false

  -- By the events that a pass has seen this is the last serial that the session has given, or its point behind an opening.
  pub record IsLastGiven (key : K) (seen : List Happening) (number serial : ℕ) : Type 0 where
    pub its : SessionState
    pub there : slice_get (led (plane at) (at key) seen).now.sessions number ≡ Some its
    pub last : serial ≡ its.serial

  -- A session with its pass, at a table, between two calls: the seat is the session's, it sits at its desk, and has nothing else in hand.
  pub record IsReady (key : K) (table seat : TableId) (me : Me Slot (Knows K)) (m : Sitter) (desk : ℕ) : Type 0 where
    pub opened : IsTableOf (at key) table
    pub same_table : seat ≡ table
    pub rests : Rests at key me m
    pub at_desk : IsAtDesk at desk me
    pub empty : me.0.hand ≡ None
    pub its_desk : desk ≡ desk_slot drain_slots m.seat.number
