-- A call that a session has run at a table, over the store of an image.
use Rattle.std.specs.Prelude.{◌≡◌, ℕ, List, map}
use Rattle.atomic_table.specs.Seated.{TableId}
use Rattle.atomic_table.specs.Table.{Me}
use Rattle.law_order.specs.Below.fkv_core.Openings.{IsOpeningWorld, beginning}
use Rattle.fkv_map.specs.declared.operations.Call.{Call}
use Rattle.law_order.specs.Below.fkv_opening.Opened.{IsStoreOf}
use Rattle.law_order.specs.Below.fkv_opening.TheOpened.{Opened}
use Rattle.fkv_seats.specs.Rule.{AreAllowed, led}
use Rattle.law_order.specs.Below.fkv_session.Answer.{Answer}
use Rattle.law_order.specs.Below.fkv_session.Sessions.{Sitter}
use Rattle.law_order.specs.Below.fkv_world.Runs.{World}
use Rattle.law_order.specs.Below.fkv_world.World.{Event, Now}
use Rattle.fkv_table.specs.Calls.{HasCalled, IsAnsweredLast, IsReady}
use Rattle.fkv_table.specs.declared.happenings.Happening.{Happening}
use Rattle.fkv_table.specs.Desks.{Slot, Knows}
use Rattle.fkv_table.specs.Events.{event_of}
use Rattle.fkv_table.specs.Planes.{plane}

-- the events of a life, of which a pass has seen these
abbrev pub events_of : List Happening → List Event
events_of seen = map event_of seen

-- A call of a session, and its answer. `before` is what the session's pass had seen when it was called, and `behind` what it has seen behind the answer.
pub record CallRun : Type 0 where
  pub number : ℕ
  pub call : Call
  pub answer : Answer
  pub before : List Happening
  pub behind : List Happening

module _ {K : Type 0} (at : K → World) where
  -- The session has run it, with this pass: what `Session::run` requires and ensures. All that the pass has seen behind it may stand in the list.
  pub record HasRun (key : K) (its : CallRun) : Type 0 where
    pub table : TableId
    pub seat : TableId
    pub me : Me Slot (Knows K)
    pub machine : Sitter
    pub desk : ℕ
    pub ready : IsReady at key table seat me machine desk
    pub number : (let m = machine in m.seat.number ≡ its.number)
    pub seen : (let pass = me in pass.0.seen ≡ its.before)
    pub called : HasCalled its.number its.call its.before its.behind
    pub answered : IsAnsweredLast (led (plane at) (at key) its.behind) its.number its.answer
    pub allowed : AreAllowed (plane at) its.behind

  -- A table over the world with which a store opens, that an image holds.
  pub record IsOver (key : K) (o : Opened) (n : Now) (bytes : List ℕ) : Type 0 where
    pub store : IsStoreOf bytes o
    pub begins : IsOpeningWorld o n
    pub same : at key ≡ beginning n bytes

  -- So it is of each call that was run, if this is so of the events that its pass has seen behind it.
  abbrev pub OfEachRun : (Opened → Now → List ℕ → List Event → Type 0) → (Opened → Now → List ℕ → CallRun → Type 0) → Type 0
  OfEachRun If P = (key : K) (o : Opened) (n : Now) (bytes : List ℕ) (its : CallRun) → IsOver key o n bytes → HasRun key its → If o n bytes (events_of its.behind) → P o n bytes its
