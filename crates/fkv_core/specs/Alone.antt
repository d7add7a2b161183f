-- One actor that moves alone, up to the end of its call.
use Rattle.std.specs.Prelude.{◌≡◌, ◌⊎◌, ℕ, ◌-◌, ◌^◌, Bool, false, not, ◌&&◌, List, [], ◌∷◌, ◌++◌, length, Option, Some, None, slice_get}
use Rattle.fkv_disk.specs.Device.{IsAfter}
use Rattle.fkv_keeper.specs.KeeperRun.{is_in_hand}
use Rattle.fkv_session.specs.Sessions.{SessionState, is_busy}
use Rattle.fkv_world.specs.Opened.{IsOpenedWorld}
use Rattle.fkv_world.specs.Runs.{World, run}
use Rattle.fkv_world.specs.World.{Event, Now}
use Rattle.fkv_core.specs.declared.events.Actor.{Actor}
use Rattle.fkv_core.specs.declared.events.Actor.TheVariants.{Session, Keeper}
use Rattle.fkv_core.specs.declared.events.Event as event
use Rattle.fkv_core.specs.declared.events.Event.TheVariants as events
use Rattle.fkv_core.specs.declared.events.Told.{Told}
use Rattle.fkv_core.specs.Lives.{IsLedOn}
use Rattle.fkv_core.specs.Worlds.{EventUses, SparesDevice, took_place}

-- the event that moves an actor
abbrev pub moving : Actor → event.Event
moving (Session number) = events.Move number
moving Keeper = events.KeeperMove

-- an actor has a call in hand, in a life that goes on
abbrev pub is_seat_busy : Option SessionState → Bool
is_seat_busy None = false
is_seat_busy (Some s) = is_busy s.step

abbrev pub has_call : Now → Actor → Bool
has_call n (Session number) = is_seat_busy (slice_get n.sessions number)
has_call n Keeper = is_in_hand n.keeper.step

abbrev pub in_hand : Now → Actor → Bool
in_hand n actor = not n.crashed && has_call n actor

-- one move: whether memory was granted in it, and whether its call of the device succeeded
pub record Move : Type 0 where
  pub granted : Bool
  pub done : Bool

-- the events of an actor's moves, the newest first
abbrev pub moves_of : Actor → List Move → List Event
moves_of actor [] = []
moves_of actor (move ∷ before) = took_place (moving actor) move.granted move.done ∷ moves_of actor before

-- How these moves use the device, each of them behind the ones before it: as its event does.
abbrev pub AreUses : World → List Event → Actor → List Move → ℕ → ℕ → (ℕ → Bool) → (ℕ → Bool) → Type 0
AreUses opening before actor [] failed failed' refuses refuses' = SparesDevice failed failed' refuses refuses'
AreUses opening before actor (move ∷ earlier) failed failed' refuses refuses' =
    (mid : ℕ) × (says : (ℕ → Bool)) × AreUses opening before actor earlier failed mid refuses says
    × EventUses (run opening (moves_of actor earlier ++ before)).now.crashed (run opening (moves_of actor earlier ++ before)).now (moving actor) move.done mid failed' says refuses'

-- A life of an opened store that shows the world as it was goes on with these moves: it shows the world as it is now, its device is what they leave,
-- and what is told is the one answer that came, or that none came.
pub record IsLedBy (opening : World) (before : List Event) (actor : Actor) (moves : List Move) (after : Now) (told : Option Told) (failed failed' : ℕ) (refuses refuses' : ℕ → Bool) (seen' : List ℕ) (may_leave' : List ℕ → Type 0) : Type 0 where
  pub led : IsLedOn (run opening before) (run opening (moves_of actor moves ++ before)) after told seen' may_leave'
  pub uses : AreUses opening before actor moves failed failed' refuses refuses'

abbrev pub LeadsOnBy : Actor → List Move → Now → Now → Option Told → ℕ → ℕ → (ℕ → Bool) → (ℕ → Bool) → List ℕ → List ℕ → (List ℕ → Type 0) → (List ℕ → Type 0) → Type 0
LeadsOnBy actor moves n after told failed failed' refuses refuses' seen seen' may_leave may_leave' =
    (opening : World) (before : List Event) → IsOpenedWorld opening → (run opening before).now ≡ n → IsAfter (run opening before).past.opened (run opening before).past.calls seen may_leave
    → IsLedBy opening before actor moves after told failed failed' refuses refuses' seen' may_leave'

-- The actor has made some moves, and nobody else has. Where nothing is told it has no call in hand any more, or has made as many moves as a count has
-- numbers, which no call of a life asks for.
pub record IsMovedAlone (actor : Actor) (n after : Now) (told : Option Told) (failed failed' : ℕ) (refuses refuses' : ℕ → Bool) (honest : Type 0) (seen seen' : List ℕ) (may_leave may_leave' : List ℕ → Type 0) : Type 0 where
  pub moves : List Move
  pub life : honest → LeadsOnBy actor moves n after told failed failed' refuses refuses' seen seen' may_leave may_leave'
  pub rests : told ≡ None → (in_hand after actor ≡ false) ⊎ (length moves ≡ 2 ^ 64 - 1)
