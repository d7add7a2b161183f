-- The way of a session to the words of its table, by which a call goes straight.
use Rattle.std.specs.Prelude.{◌≡◌, ◌⊎◌, ℕ, List, [], ◌∷◌, length, Option, Some, None, slice_get}
use Rattle.atomic_table.specs.Seated.{TableId}
use Rattle.atomic_table.specs.Table.{Me}
use Rattle.fkv_base.specs.Limits.{drain_slots}
use Rattle.fkv_map.specs.declared.operations.Call.{Call}
use Rattle.fkv_map.specs.declared.operations.Call.TheVariants as call
use Rattle.fkv_map.specs.declared.operations.Op.{Op}
use Rattle.fkv_plane.specs.Asked.{asked_place, reply_to}
use Rattle.fkv_session.specs.Alike.{StandAlike}
use Rattle.fkv_session.specs.Sessions.{SessionState, Sitter, session_ask, session_next}
use Rattle.fkv_straight.specs.declared.hot.Due.{Due}
use Rattle.fkv_straight.specs.Hot.{HasLeft}
use Rattle.fkv_straight.specs.Standing.{begins, replayed}
use Rattle.law_world.specs.Below.fkv_world.Runs.{World}
use Rattle.fkv_seats.specs.Rule.{desk_slot, led}
use Rattle.fkv_table.specs.declared.happenings.Happening.{Happening}
use Rattle.fkv_table.specs.Calls.{HasCalled, IsReady}
use Rattle.fkv_table.specs.Desks.{Slot, Knows, IsAtDesk}
use Rattle.fkv_table.specs.Openings.{IsTableOf}
use Rattle.fkv_table.specs.Planes.{plane}
use Rattle.fkv_table.specs.Sits.{IsSeated, Replied}

-- A line: of which store and table, what its seat knows and has in hand, the session's machine as the line began, the desk, and the replies of the call in hand.
pub record LineModel (K : Type 0) : Type 0 where
  pub key : K
  pub table : TableId
  pub me : Me Slot (Knows K)
  pub machine : Sitter
  pub desk : ℕ
  pub replies : List ℕ

abbrev pub line_of : {K : Type 0} → K → TableId → Me Slot (Knows K) → Sitter → ℕ → List ℕ → LineModel K
line_of key table me machine desk replies = record { key = key; table = table; me = me; machine = machine; desk = desk; replies = replies }

-- a pass as a call began: of which table its seat was, and what it knew and had in hand
pub record Origin (K : Type 0) : Type 0 where
  pub seat : TableId
  pub me : Me Slot (Knows K)

-- a session of a world, or another where there is none
abbrev pub session_or : SessionState → Option SessionState → SessionState
session_or other None = other
session_or other (Some its) = its

abbrev pub session_in : Sitter → World → SessionState
session_in m w = session_or m.state (slice_get w.now.sessions m.seat.number)

-- where the reply to its ask leads it
abbrev pub replied_in : Sitter → World → SessionState
replied_in m w = let s = session_in m w in session_next m.seat s (reply_to w.now.words (session_ask m.seat s))

module _ {K : Type 0} (at : K → World) where
  -- Where a session's machine stands by what its seat has seen, and by the slot that is out with it. If one is, the newest step has turned to it, and its action isn't moved yet.
  abbrev pub come_to : K → Sitter → Option ℕ → List Happening → SessionState
  come_to key m (Some slot) (its ∷ before) = replied_in m (led (plane at) (at key) before)
  come_to key m (Some slot) [] = session_in m (at key)
  come_to key m None seen = session_in m (led (plane at) (at key) seen)

  unfoldable pub stands : LineModel K → SessionState
  stands l = come_to l.key l.machine l.me.0.hand l.me.0.seen

  -- the session, where it stands
  abbrev pub sitter : LineModel K → Sitter
  sitter l = record l.machine { state = stands l }

  -- A step of the seat has led its session here by its reply, and the action that goes with it isn't moved yet.
  pub record HasReplied (key : K) (me : Me Slot (Knows K)) (m : Sitter) : Type 0 where
    pub before : Me Slot (Knows K)
    pub own : List Happening
    pub its : Sitter
    pub seated : IsSeated at key before own its
    pub word : (place : ℕ) × (asked_place (session_ask its.seat its.state) ≡ Some place)
    pub replied : Replied at key before own its me m

  -- the seat is the session's, between two steps, and no slot is out with it; or a step has led it here
  abbrev pub HasCome : K → Me Slot (Knows K) → Sitter → Type 0
  HasCome key me m = (IsSeated at key me [] m × (me.0.hand ≡ None)) ⊎ HasReplied key me m

  -- A line at its table: the seat sits at its desk, and has come to where the session stands.
  pub record IsAlong (l : LineModel K) : Type 0 where
    pub opened : IsTableOf (at l.key) l.table
    pub at_desk : IsAtDesk at l.desk l.me
    pub its_desk : l.desk ≡ desk_slot drain_slots l.machine.seat.number
    pub come : HasCome l.key l.me (sitter l)

  -- Since the line stood as the first, the call has begun and has come to the last: by these steps in the list of events, and by these replies.
  pub record HasLed (start : LineModel K) (call : Call) (now : LineModel K) : Type 0 where
    pub same : now ≡ record start { me = now.me; replies = now.replies }
    pub called : HasCalled start.machine.seat.number call start.me.0.seen now.me.0.seen
    pub step : HasReplied now.key now.me (sitter now)
    pub replayed : stands now ≡ replayed now.machine.seat (begins start.machine.seat (stands start) call) now.replies

  -- A session was ready for this call, which has gone straight as far as the line has come. The machine stands as it stood then, and would begin the call alike.
  pub record IsBegun (key : K) (table : TableId) (m : Sitter) (call : Call) (now : LineModel K) : Type 0 where
    pub me : Me Slot (Knows K)
    pub seat : TableId
    pub ready : IsReady at key table seat me m now.desk
    pub led : HasLed (line_of key table me m now.desk []) call now
    pub begins : StandAlike (begins m.seat m.state call) (begins m.seat (stands (line_of key table me m now.desk [])) call)

  -- The hot part of an operation's call has left this: a session was ready for the call with that pass, has come so far with these replies, and the machine stands as it stood then.
  pub record IsLeft (key : K) (table : TableId) (m : Sitter) (desk : ℕ) (op : Op) (due : Due) (first : Origin K) (me : Me Slot (Knows K)) (replies : List ℕ) : Type 0 where
    pub ready : IsReady at key table first.seat first.me m desk
    pub along : IsAlong (line_of key table me m desk replies)
    pub led : HasLed (line_of key table first.me m desk []) (call.Op op) (line_of key table me m desk replies)
    pub begins : StandAlike (begins m.seat m.state (call.Op op)) (begins m.seat (stands (line_of key table first.me m desk [])) (call.Op op))
    pub left : HasLeft m.seat m.state op due (length replies) (stands (line_of key table me m desk replies))
