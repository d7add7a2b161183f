-- What the Rust world shows.
use Rattle.std.specs.Prelude.{◌≡◌, ◌<◌, ◌≤◌, ℕ, Bool, true, false, not, ◌&&◌, if◌then◌else◌, List, [], map, Option, None, Some, slice_get, slice_set}
use Rattle.fkv_base.specs.declared.shapes.Shape.{Shape}
use Rattle.fkv_disk.specs.Asks.{AskedCall, kinds_by}
use Rattle.fkv_disk.specs.Calls.{Call as DeviceCall}
use Rattle.fkv_disk.specs.Device.{Rose}
use Rattle.fkv_disk.specs.Device as device
use Rattle.fkv_disk.specs.Kinds.{Kind, Foretold}
use Rattle.fkv_flush.specs.Devices.{Adds}
use Rattle.fkv_keeper.specs.declared.answers.KeeperTold.{KeeperTold}
use Rattle.fkv_keeper.specs.declared.answers.KeeperTold.TheVariants.{Device}
use Rattle.fkv_keeper.specs.declared.keepers.Keeping.TheVariants.{Sweeps}
use Rattle.fkv_plane.specs.declared.asks.Ask.{Ask}
use Rattle.fkv_plane.specs.declared.asks.Ask.TheVariants.{Done}
use Rattle.fkv_keeper.specs.KeeperAsks.{keeper_calls, keeper_due, keeper_made, keeper_read}
use Rattle.fkv_keeper.specs.Keeping.{KeeperModel, KeeperState, keeper_ask}
use Rattle.fkv_map.specs.declared.operations.Call.{Call}
use Rattle.fkv_plane.specs.declared.places.Places.{Places}
use Rattle.fkv_plane.specs.Plane.{Plane}
use Rattle.fkv_session.specs.Sessions.{Sitter, SessionState, is_busy}
use Rattle.fkv_world.specs.Moves.{Near, session_moved, keeper_moved}
use Rattle.fkv_world.specs.Past.{calls_after}
use Rattle.fkv_world.specs.World.{Event, Now, Calls, Moves, Commits, Turns, KeeperMoves, Crashes, session_called, happens_now}
use Rattle.fkv_core.specs.declared.events.Event as event
use Rattle.fkv_core.specs.declared.events.Event.TheVariants as events
use Rattle.fkv_core.specs.declared.events.Told.{Told}
use Rattle.fkv_core.specs.Lives.{LeadsOn, LeadsAnyOn}
use Rattle.fkv_core.specs.Told.{IsTold, may_begin, may_move}

-- a machine beside the words and the actions
abbrev pub beside : {S : Type 0} → Plane → S → Near S
beside plane machine = record { machine = machine; words = plane.words; actions = plane.actions }

-- How a step uses the device. Where the keeper asks for it, so many calls are made, no fewer and no more; a call fails only where the device counts a
-- failure then, and each that the device said it refuses does. No other ask comes near it.
pub record MakesItsCalls (count : ℕ) (done : Bool) (failed failed' : ℕ) (refuses refuses' : ℕ → Bool) : Type 0 where
  pub later : failed ≤ failed'
  pub rose : done ≡ false → Rose failed failed'
  pub counted : refuses' ≡ device.after count refuses
  pub refused : (i : ℕ) → i < count → refuses i ≡ true → done ≡ false

abbrev pub SparesDevice : ℕ → ℕ → (ℕ → Bool) → (ℕ → Bool) → Type 0
SparesDevice failed failed' refuses refuses' = (failed' ≡ failed) × (refuses' ≡ refuses)

abbrev pub UsesDevice : Ask KeeperTold → ℕ → Bool → ℕ → ℕ → (ℕ → Bool) → (ℕ → Bool) → Type 0
UsesDevice (Done Device) count done failed failed' refuses refuses' = MakesItsCalls count done failed failed' refuses refuses'
UsesDevice ask count done failed failed' refuses refuses' = SparesDevice failed failed' refuses refuses'

-- so it is of an event: the keeper's moves alone use it, and after a crash nothing does
abbrev pub LiveEventUses : Now → event.Event → Bool → ℕ → ℕ → (ℕ → Bool) → (ℕ → Bool) → Type 0
LiveEventUses n events.KeeperMove done failed failed' refuses refuses' = UsesDevice (keeper_ask n.shape n.places n.keeper) (keeper_made n.places n.keeper) done failed failed' refuses refuses'
LiveEventUses n events.SweepMove done failed failed' refuses refuses' = UsesDevice (keeper_ask n.shape n.places n.keeper) (keeper_made n.places n.keeper) done failed failed' refuses refuses'
LiveEventUses n its done failed failed' refuses refuses' = SparesDevice failed failed' refuses refuses'

abbrev pub EventUses : Bool → Now → event.Event → Bool → ℕ → ℕ → (ℕ → Bool) → (ℕ → Bool) → Type 0
EventUses true n its done failed failed' refuses refuses' = SparesDevice failed failed' refuses refuses'
EventUses false n its done failed failed' refuses refuses' = LiveEventUses n its done failed failed' refuses refuses'

-- What a device says of itself and its calls to come, behind an event. Where the keeper asks for the device the call that is due was made, and no other one: with its
-- place, its bytes and whether it came through. A device may say anything of calls, so these are the calls of each device, whether it is honest or not.
abbrev pub kinds_asked : Ask KeeperTold → Option AskedCall → Bool → (List Kind → Foretold) → List Kind → Foretold
kinds_asked (Done Device) due done says = kinds_by due done says
kinds_asked ask due done says = says

abbrev pub live_kinds : Now → event.Event → Bool → (List Kind → Foretold) → List Kind → Foretold
live_kinds n events.KeeperMove done says = kinds_asked (keeper_ask n.shape n.places n.keeper) (keeper_due (record { shape = n.shape; places = n.places; state = n.keeper })) done says
live_kinds n events.SweepMove done says = kinds_asked (keeper_ask n.shape n.places n.keeper) (keeper_due (record { shape = n.shape; places = n.places; state = n.keeper })) done says
live_kinds n its done says = says

abbrev pub kinds_behind : Bool → Now → event.Event → Bool → (List Kind → Foretold) → List Kind → Foretold
kinds_behind true n its done says = says
kinds_behind false n its done says = live_kinds n its done says

-- where the keeper doesn't sweep the log's front, it doesn't behind a step either
abbrev pub BeginsNoSweep : KeeperState → KeeperState → Type 0
BeginsNoSweep s after = after.step ≡ Sweeps → s.step ≡ Sweeps

-- one event alone may begin a sweep
abbrev pub may_sweep : event.Event → Bool
may_sweep events.SweepMove = true
may_sweep its = false

-- The keeper's step beside the words and a device: whether memory was granted, whether the call of the device succeeded, and what it read. It begins no sweep
-- where it isn't let. An honest device took what the keeper writes, and gave what it reads as.
pub record IsKeeperMove (sweeps : Bool) (plane : Plane) (k : KeeperModel) (plane' : Plane) (k' : KeeperModel) (failed failed' : ℕ) (refuses refuses' : ℕ → Bool) (expects expects' : List Kind → Foretold) (honest : Type 0) (seen seen' : List ℕ) (may_leave may_leave' : List ℕ → Type 0) : Type 0 where
  pub granted : Bool
  pub done : Bool
  pub read : List ℕ
  pub store : k' ≡ record k { state = k'.state }
  pub uses : UsesDevice (keeper_ask k.shape k.places k.state) (keeper_made k.places k.state) done failed failed' refuses refuses'
  pub kinds : expects' ≡ kinds_asked (keeper_ask k.shape k.places k.state) (keeper_due k) done expects
  pub moved : beside plane' k'.state ≡ keeper_moved k.shape k.places granted done read (beside plane k.state)
  pub no_sweep : sweeps ≡ false → BeginsNoSweep k.state k'.state
  pub as_read : honest → beside plane' k'.state ≡ keeper_moved k.shape k.places granted done (keeper_read k seen) (beside plane k.state)
  pub wrote : honest → Adds (calls_after (keeper_ask k.shape k.places k.state) (keeper_calls k.shape k.state done) []) seen seen' may_leave may_leave'

pub record WorldModel (D : Type 0) : Type 0 where
  pub now : Now
  pub device : D

abbrev pub state_of : Sitter → SessionState
state_of s = s.state

abbrev pub states_of : List Sitter → List SessionState
states_of sitters = map state_of sitters

-- each session has the seat of its place in the list, in this store
abbrev pub AreSeated : Shape → Places → List Sitter → Type 0
AreSeated shape places sitters = (i : ℕ) (s : Sitter) → slice_get sitters i ≡ Some s → s.seat ≡ record { places = places; shape = shape; number = i }

-- a session takes the place of one, with its seat
pub record IsPut (number : ℕ) (s s' : Sitter) (sitters sitters' : List Sitter) : Type 0 where
  pub put : sitters' ≡ slice_set sitters number s'
  pub seat : s'.seat ≡ s.seat

pub record IsCallBegun (number : ℕ) (call : Call) (s : Sitter) (sitters sitters' : List Sitter) (ended : Bool) : Type 0 where
  pub next : Sitter
  pub its : IsPut number s next sitters sitters'
  pub begun : next.state ≡ session_called s.seat s.state call
  pub ends : ended ≡ may_begin s.state && not (is_busy next.state.step)

abbrev pub IsCallBegunBy : ℕ → Call → Option Sitter → List Sitter → List Sitter → Bool → Type 0
IsCallBegunBy number call None sitters sitters' ended = (sitters' ≡ sitters) × (ended ≡ false)
IsCallBegunBy number call (Some s) sitters sitters' ended = IsCallBegun number call s sitters sitters' ended

-- a session begins a call, or there is none of this number; whether the call has ended at once
abbrev pub AreSessionCalls : ℕ → Call → List Sitter → List Sitter → Bool → Type 0
AreSessionCalls number call sitters sitters' ended = IsCallBegunBy number call (slice_get sitters number) sitters sitters' ended

pub record IsMoved (number : ℕ) (plane plane' : Plane) (s : Sitter) (sitters sitters' : List Sitter) (ended : Bool) : Type 0 where
  pub next : Sitter
  pub its : IsPut number s next sitters sitters'
  pub moved : beside plane' next.state ≡ session_moved s.seat (beside plane s.state)
  pub ends : ended ≡ may_move s.state && not (is_busy next.state.step)

abbrev pub IsMovedBy : ℕ → Plane → Plane → Option Sitter → List Sitter → List Sitter → Bool → Type 0
IsMovedBy number plane plane' None sitters sitters' ended = (plane' ≡ plane) × (sitters' ≡ sitters) × (ended ≡ false)
IsMovedBy number plane plane' (Some s) sitters sitters' ended = IsMoved number plane plane' s sitters sitters' ended

-- a session makes its ask, or there is none of this number; whether a call has ended in it
abbrev pub AreSessionMoves : ℕ → Plane → Plane → List Sitter → List Sitter → Bool → Type 0
AreSessionMoves number plane plane' sitters sitters' ended = IsMovedBy number plane plane' (slice_get sitters number) sitters sitters' ended

-- the event that took place, with whether memory was granted and whether the call of the device succeeded
abbrev pub took_place : event.Event → Bool → Bool → Event
took_place (events.Call number call) granted done = Calls number call
took_place (events.Move number) granted done = Moves number
took_place (events.Commit kind) granted done = Commits kind
took_place events.Turn granted done = Turns
took_place events.KeeperMove granted done = KeeperMoves granted done
took_place events.SweepMove granted done = KeeperMoves granted done
took_place events.Crash granted done = Crashes

-- what an honest device gives the keeper
abbrev pub device_gives : Now → List ℕ → List ℕ
device_gives n seen = keeper_read (record { shape = n.shape; places = n.places; state = n.keeper }) seen

-- the write or sync of an event
abbrev pub event_calls : Now → Event → List DeviceCall
event_calls n (KeeperMoves granted done) = calls_after (keeper_ask n.shape n.places n.keeper) (keeper_calls n.shape n.keeper done) []
event_calls n event = []

abbrev pub calls_made : Now → Event → List DeviceCall
calls_made n event = if n.crashed then [] else event_calls n event

-- One step of the world, and what it told: with the event that took place it leaves what the rules of the world give, whatever the device read. A sweep begins by
-- one event alone.
-- Over an honest device, which took what the event writes and gave what it reads as, it goes on with each life of an opened store that shows this world.
pub record IsStep (its : event.Event) (n after : Now) (told : Option Told) (failed failed' : ℕ) (refuses refuses' : ℕ → Bool) (expects expects' : List Kind → Foretold) (honest : Type 0) (seen seen' : List ℕ) (may_leave may_leave' : List ℕ → Type 0) : Type 0 where
  pub granted : Bool
  pub done : Bool
  pub read : List ℕ
  pub now : after ≡ happens_now n read (took_place its granted done)
  pub no_sweep : may_sweep its ≡ false → BeginsNoSweep n.keeper after.keeper
  pub tells : IsTold n.crashed n after (took_place its granted done) told
  pub uses : EventUses n.crashed n its done failed failed' refuses refuses'
  pub kinds : expects' ≡ kinds_behind n.crashed n its done expects
  pub as_read : honest → after ≡ happens_now n (device_gives n seen) (took_place its granted done)
  pub wrote : honest → Adds (calls_made n (took_place its granted done)) seen seen' may_leave may_leave'
  pub life : honest → LeadsOn n after (took_place its granted done) told seen seen' may_leave may_leave'
  pub any_life : honest → LeadsAnyOn n after (took_place its granted done) told seen seen' may_leave may_leave'
