-- What the keeper's machine and its seat have to do with each other, and what a step of the keeper tells.
use Rattle.std.specs.Prelude.{◌≡◌, ⊤, ℕ, Bool, true, false, List, [], ◌∷◌, ◌++◌, Option, Some, None}
use Rattle.atomic_table.specs.Seated.{TableId}
use Rattle.atomic_table.specs.Table.{Me, Step, rest}
use Rattle.fkv_disk.specs.Calls.{MayLeave}
use Rattle.fkv_disk.specs.Device.{IsAfter}
use Rattle.fkv_plane.specs.declared.actions.Action.{Action}
use Rattle.fkv_plane.specs.declared.asks.Ask.{Ask}
use Rattle.fkv_plane.specs.declared.asks.Ask.TheVariants.{Put, Take}
use Rattle.fkv_plane.specs.Asked.{reply_to}
use Rattle.fkv_keeper.specs.declared.answers.KeeperTold.{KeeperTold}
use Rattle.fkv_keeper.specs.Keeping.{KeeperModel, keeper_ask, keeper_next}
use Rattle.fkv_keeper.specs.KeeperRun.{is_in_hand}
use Rattle.law_world.specs.Below.fkv_world.Actors.{slot_asked, slot_named}
use Rattle.law_world.specs.Below.fkv_world.Moves.{keeper_gets}
use Rattle.law_world.specs.Below.fkv_world.Past.{Past}
use Rattle.law_world.specs.Below.fkv_world.Runs.{World}
use Rattle.fkv_seats.specs.declared.held.Held.TheVariants.{Drain}
use Rattle.fkv_seats.specs.declared.views.Role.TheVariants.{Rest}
use Rattle.fkv_seats.specs.Rule.{AreAllowed, Carries, HandFits, IsSeenBy, Quiet, Stepped, base, led, speaks}
use Rattle.fkv_table.specs.declared.happenings.Happening.{Happening}
use Rattle.fkv_table.specs.declared.happenings.Happening.TheVariants.{KeeperMoves}
use Rattle.fkv_table.specs.Desks.{Slot, Knows}
use Rattle.fkv_table.specs.Events.{actor_of, event_of, may_stand}
use Rattle.fkv_table.specs.Openings.{IsGuardedOpening, IsTableOf}
use Rattle.fkv_table.specs.Planes.{plane}

module _ {K : Type 0} (at : K → World) where
  -- The seat is the keeper's of this store, which has no desk in hand, and the machine is what the events that it has seen have led it to. All of these may stand in the list.
  pub record IsKeeping (key : K) (me : Me Slot (Knows K)) (k : KeeperModel) : Type 0 where
    pub about : me.0.about ≡ Some key
    pub from : ℕ
    pub role : me.0.role ≡ Rest from
    pub shape : k.shape ≡ (at key).now.shape
    pub places : k.places ≡ (at key).now.places
    pub allowed : AreAllowed (plane at) me.0.seen
    pub state : k.state ≡ (led (plane at) (at key) me.0.seen).now.keeper
    pub hand : HandFits (plane at) (at key) me.0.seen me.0.hand me.1
    pub alone : base (plane at) me.0.hand me.1 ≡ []

  -- The keeper with its pass, at a table, between two calls.
  pub record IsKeeperReady (key : K) (table seat : TableId) (me : Me Slot (Knows K)) (k : KeeperModel) : Type 0 where
    pub opened : IsTableOf (at key) table
    pub same_table : seat ≡ table
    pub keeping : IsKeeping key me k
    pub idle : is_in_hand k.state.step ≡ false

  -- The same in the middle of a call, or between two.
  pub record IsKeeperAtWork (key : K) (table seat : TableId) (me : Me Slot (Knows K)) (k : KeeperModel) : Type 0 where
    pub opened : IsTableOf (at key) table
    pub same_table : seat ≡ table
    pub keeping : IsKeeping key me k

  -- The keeper of a table that was just opened, with its pass. As soon as the guard begins with the table's world they are ready.
  pub record IsFreshKeeper (key : K) (table : TableId) (k : KeeperModel) (seat : TableId) (me : Me Slot (Knows K)) : Type 0 where
    pub ready : IsGuardedOpening (at key) → IsKeeperReady key table seat me k
    pub nothing_seen : me.0.seen ≡ []

  -- A device reads as, and may leave, what the calls give that are past behind a list of events.
  abbrev pub IsAfterSeen : K → List Happening → List ℕ → (List ℕ → Type 0) → Type 0
  IsAfterSeen key events shown may_leave = let p : Past = (led (plane at) (at key) events).past in IsAfter p.opened p.calls shown may_leave

  -- An image is one that a crash may leave in a call of the keeper. `now` is the list of events at that moment. It goes on from what the keeper's pass had seen,
  -- and what the pass has seen behind the call goes on from it.
  pub record IsLeftWithin (key : K) (seen seen' : List Happening) (image : List ℕ) : Type 0 where
    pub now : List Happening
    pub from : IsSeenBy (plane at) seen now
    pub to : IsSeenBy (plane at) now seen'
    pub left : (let p : Past = (led (plane at) (at key) now).past in MayLeave p.opened p.calls image)

  -- behind the second list the calls of the device are those behind the first, over the same bytes
  abbrev pub LeavesDevice : K → List Happening → List Happening → Type 0
  LeavesDevice key seen seen' =
      let p : Past = (led (plane at) (at key) seen).past in
      let q : Past = (led (plane at) (at key) seen').past in
      (q.opened ≡ p.opened) × (q.calls ≡ p.calls)

  -- what a step of the keeper tells that adds this event
  abbrev pub adding : Happening → Step Slot → Me Slot (Knows K) → ℕ → Me Slot (Knows K) → Type 0
  adding its st m n m' = (key : K) → m.0.about ≡ Some key → Stepped (plane at) (at key) m.0 m.1 st.word [] its n m'

  -- An event of whom the seat speaks for may stand in the list, changes no word and turns to no slot, whatever others have done before it.
  pub record Spares (key : K) (me : Me Slot (Knows K)) (its : Happening) : Type 0 where
    pub own : speaks me.0.role (actor_of its) ≡ true
    pub allowed : may_stand its ≡ true
    pub words : (others : List Happening) → Quiet (plane at) me.0.role others
        → (led (plane at) (at key) (its ∷ (others ++ me.0.seen))).now.words ≡ (led (plane at) (at key) (others ++ me.0.seen)).now.words
    pub slot : (others : List Happening) → Quiet (plane at) me.0.role others → slot_named (led (plane at) (at key) (others ++ me.0.seen)).now (event_of its) ≡ None

  -- Such an event stands at the end of the list, behind what others have done.
  pub record IsNoted (key : K) (me : Me Slot (Knows K)) (its : Happening) (me' : Me Slot (Knows K)) : Type 0 where
    pub others : List Happening
    pub quiet : Quiet (plane at) me.0.role others
    pub allowed : AreAllowed (plane at) others
    pub seen : me'.0.seen ≡ its ∷ (others ++ me.0.seen)
    pub about : me'.0.about ≡ me.0.about
    pub role : me'.0.role ≡ me.0.role
    pub hand : me'.0.hand ≡ None
    pub held : me'.1 ≡ base (plane at) me.0.hand me.1

  -- The step's reply has led the machine on, by whether memory is granted, and the slot that its next ask turns to is out with the seat, if it turns to one.
  pub record KeeperReplied (key : K) (me : Me Slot (Knows K)) (granted : Bool) (k : KeeperModel) (me' : Me Slot (Knows K)) (k' : KeeperModel) : Type 0 where
    pub store : (k'.shape ≡ k.shape) × (k'.places ≡ k.places)
    pub others : List Happening
    pub quiet : Quiet (plane at) me.0.role others
    pub allowed : AreAllowed (plane at) others
    pub seen : me'.0.seen ≡ KeeperMoves granted true ∷ (others ++ me.0.seen)
    pub about : me'.0.about ≡ me.0.about
    pub role : me'.0.role ≡ me.0.role
    pub state : k'.state ≡ keeper_next k.shape k.places k.state (reply_to (led (plane at) (at key) (others ++ me.0.seen)).now.words (keeper_ask k.shape k.places k.state)) granted
    pub hand : me'.0.hand ≡ slot_asked (keeper_ask k.shape k.places k'.state)
    pub carries : Carries (plane at) (at key) (others ++ me.0.seen) me'.0.hand (base (plane at) me.0.hand me.1) me'.1

  -- the slot to which its ask turns is out with the seat, at the front
  abbrev pub KeeperIsAsked : Ask KeeperTold → Me Slot (Knows K) → Type 0
  KeeperIsAsked (Put slot action) me = (x : Slot) × (me.1 ≡ (slot, x) ∷ rest me.1)
  KeeperIsAsked (Take slot) me = (its : Option Action) × (me.1 ≡ (slot, Drain its) ∷ rest me.1)
  KeeperIsAsked ask me = ⊤

  -- The action of that slot has been moved, and the machine has gone on.
  abbrev pub KeeperSettled : Ask KeeperTold → Me Slot (Knows K) → KeeperModel → Me Slot (Knows K) → KeeperModel → Type 0
  KeeperSettled (Put slot action) me k me' k' = (me' ≡ (me.0, (slot, Drain (Some action)) ∷ rest me.1)) × (k' ≡ record k { state = keeper_next k.shape k.places k.state 0 false })
  KeeperSettled (Take slot) me k me' k' =
      (its : Option Action) × (me.1 ≡ (slot, Drain its) ∷ rest me.1) × (me' ≡ (me.0, (slot, Drain None) ∷ rest me.1)) × (k' ≡ record k { state = keeper_gets k.shape k.places k.state its })
  KeeperSettled ask me k me' k' = (me' ≡ me) × (k' ≡ k)
