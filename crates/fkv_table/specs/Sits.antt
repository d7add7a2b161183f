-- What a session's machine and its seat have to do with each other, and what a step of the session tells.
use Rattle.std.specs.Prelude.{◌≡◌, ⊤, ℕ, false, List, [], ◌∷◌, ◌++◌, Option, Some, None, slice_get}
use Rattle.atomic_table.specs.Table.{Me, rest}
use Rattle.fkv_map.specs.declared.operations.Call.{Call}
use Rattle.fkv_plane.specs.declared.actions.Action.{Action}
use Rattle.fkv_plane.specs.declared.asks.Ask.{Ask}
use Rattle.fkv_plane.specs.declared.asks.Ask.TheVariants.{Put, Take, Done}
use Rattle.fkv_plane.specs.Asked.{reply_to}
use Rattle.fkv_session.specs.declared.answers.Told.{Told}
use Rattle.fkv_session.specs.Alike.{StandAlike, lasting}
use Rattle.fkv_session.specs.Sessions.{Seat, SessionState, Sitter, is_busy, session_ask, session_next}
use Rattle.law_world.specs.Below.fkv_world.Actors.{slot_asked}
use Rattle.law_world.specs.Below.fkv_world.Moves.{session_gets}
use Rattle.law_world.specs.Below.fkv_world.Runs.{World}
use Rattle.law_world.specs.Below.fkv_world.World.{seat_at, session_called}
use Rattle.fkv_seats.specs.declared.held.Held.TheVariants.{Drain}
use Rattle.fkv_seats.specs.declared.views.Role.TheVariants.{Sits}
use Rattle.fkv_seats.specs.Rule.{AreAllowed, HandFits, Quiet, Carries, base, led}
use Rattle.fkv_table.specs.declared.happenings.Happening.{Happening}
use Rattle.fkv_table.specs.declared.happenings.Happening.TheVariants.{Calls, Moves}
use Rattle.fkv_table.specs.Desks.{Slot, Knows}
use Rattle.fkv_table.specs.Planes.{plane}

-- the starts of calls of a session, and what they lead its machine to
abbrev pub AreCalls : ℕ → List Happening → Type 0
AreCalls number [] = ⊤
AreCalls number (its ∷ before) = ((call : Call) × (its ≡ Calls number call)) × AreCalls number before

abbrev pub called_after : Seat → SessionState → List Happening → SessionState
called_after k s [] = s
called_after k s (Calls number call ∷ before) = session_called k (called_after k s before) call
called_after k s (its ∷ before) = called_after k s before

module _ {K : Type 0} (at : K → World) where
  -- The seat is the session's of this store, and the machine is what its own events have led it to: those that it has seen, and starts that it has yet to add.
  -- All that it has seen may stand in the list, and so may these.
  pub record IsSeated (key : K) (me : Me Slot (Knows K)) (own : List Happening) (m : Sitter) : Type 0 where
    pub about : me.0.about ≡ Some key
    pub role : me.0.role ≡ Sits m.seat.number
    pub chair : m.seat ≡ seat_at (at key).now m.seat.number
    pub first : SessionState
    pub was : slice_get (led (plane at) (at key) me.0.seen).now.sessions m.seat.number ≡ Some first
    pub calls : AreCalls m.seat.number own
    pub allowed : AreAllowed (plane at) (own ++ me.0.seen)
    pub state : m.state ≡ called_after m.seat first own
    pub hand : HandFits (plane at) (at key) me.0.seen me.0.hand me.1

  -- The step's reply has led the machine on, and the slot that its next ask turns to is out with the seat, if it turns to one.
  pub record Replied (key : K) (me : Me Slot (Knows K)) (own : List Happening) (m : Sitter) (me' : Me Slot (Knows K)) (m' : Sitter) : Type 0 where
    pub seat : m'.seat ≡ m.seat
    pub others : List Happening
    pub quiet : Quiet (plane at) me.0.role others
    pub allowed : AreAllowed (plane at) others
    pub seen : me'.0.seen ≡ Moves m.seat.number ∷ (own ++ (others ++ me.0.seen))
    pub about : me'.0.about ≡ me.0.about
    pub role : me'.0.role ≡ me.0.role
    pub desk : me'.0.desk ≡ me.0.desk
    pub state : m'.state ≡ session_next m.seat m.state (reply_to (led (plane at) (at key) (own ++ (others ++ me.0.seen))).now.words (session_ask m.seat m.state))
    pub hand : me'.0.hand ≡ slot_asked (session_ask m'.seat m'.state)
    pub carries : Carries (plane at) (at key) (own ++ (others ++ me.0.seen)) me'.0.hand (base (plane at) me.0.hand me.1) me'.1

  -- A machine stands in for the session of the seat: the two stand alike, so they ask and answer the same.
  pub record StandsIn (key : K) (me : Me Slot (Knows K)) (own : List Happening) (m : Sitter) : Type 0 where
    pub its : SessionState
    pub seated : IsSeated key me own (record m { state = its })
    pub alike : StandAlike m.state its

  -- The step's reply has led both on.
  pub record RepliedIn (key : K) (me : Me Slot (Knows K)) (own : List Happening) (m : Sitter) (me' : Me Slot (Knows K)) (m' : Sitter) : Type 0 where
    pub before : StandsIn key me own m
    pub after : SessionState
    pub replied : Replied key me own (record m { state = before.its }) me' (record m' { state = after })
    pub alike : StandAlike m'.state after

  -- No call is in hand, and the same lasts of the session as of the machine: so it stands in for the session in the next call.
  pub record Rests (key : K) (me : Me Slot (Knows K)) (m : Sitter) : Type 0 where
    pub its : SessionState
    pub seated : IsSeated key me [] (record m { state = its })
    pub alike : lasting m.state ≡ lasting its
    pub idle : is_busy its.step ≡ false

  -- the slot to which an ask turns is out with the seat, at the front
  abbrev pub IsAsked : Ask Told → Me Slot (Knows K) → Type 0
  IsAsked (Put slot action) me = (x : Slot) × (me.1 ≡ (slot, x) ∷ rest me.1)
  IsAsked (Take slot) me = (its : Option Action) × (me.1 ≡ (slot, Drain its) ∷ rest me.1)
  IsAsked ask me = ⊤

  -- The action of that slot has been moved, and the machine has gone on.
  abbrev pub Settled : Ask Told → Me Slot (Knows K) → Sitter → Me Slot (Knows K) → Sitter → Type 0
  Settled (Put slot action) me m me' m' = (me' ≡ (me.0, (slot, Drain (Some action)) ∷ rest me.1)) × (m' ≡ record m { state = session_next m.seat m.state 0 })
  Settled (Take slot) me m me' m' = (its : Option Action) × (me.1 ≡ (slot, Drain its) ∷ rest me.1) × (me' ≡ (me.0, (slot, Drain None) ∷ rest me.1)) × (m' ≡ record m { state = session_gets m.seat m.state its })
  Settled ask me m me' m' = (me' ≡ me) × (m' ≡ m)

  -- The step has put its event at the list's end, behind these starts and what others have done since.
  pub record Went (me : Me Slot (Knows K)) (own : List Happening) (number : ℕ) (me' : Me Slot (Knows K)) : Type 0 where
    pub others : List Happening
    pub quiet : Quiet (plane at) me.0.role others
    pub seen : me'.0.seen ≡ Moves number ∷ (own ++ (others ++ me.0.seen))
    pub role : me'.0.role ≡ me.0.role
    pub desk : me'.0.desk ≡ me.0.desk
    pub base : base (plane at) me'.0.hand me'.1 ≡ base (plane at) me.0.hand me.1

  -- at the end of a call it has no drain slot in hand
  abbrev pub IsIdleEmpty : Sitter → Me Slot (Knows K) → Type 0
  IsIdleEmpty m me = (its : Told) → session_ask m.seat m.state ≡ Done its → me.0.hand ≡ None
