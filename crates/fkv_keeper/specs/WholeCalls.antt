-- A whole call of the keeper over plain words and a device: each thing that it asks is answered at once, by them.
use Rattle.std.specs.Prelude.{◌≡◌, ℕ, ◌+◌, List, [], ◌∷◌, ◌++◌, ⊤, Bool, true, false, slice_set, Option, Some, None, Result, Ok, Err}
use Rattle.fkv_base.specs.declared.faults.Fault.{Fault}
use Rattle.fkv_base.specs.declared.faults.Fault.TheVariants as fault
use Rattle.fkv_base.specs.declared.shapes.Shape.{Shape}
use Rattle.fkv_disk.specs.Calls.{Call, ReadsAs}
use Rattle.fkv_disk.specs.Device.{HasCause, IsAfter, MakesCalls}
use Rattle.fkv_plane.specs.declared.actions.Action.{Action}
use Rattle.fkv_plane.specs.declared.asks.Ask.{Ask}
use Rattle.fkv_plane.specs.declared.asks.Ask.TheVariants.{Put, Take, Done}
use Rattle.fkv_plane.specs.declared.places.Places.{Places}
use Rattle.fkv_plane.specs.Asked.{reply_to, words_after}
use Rattle.fkv_plane.specs.Plane.{Plane, action_at}
use Rattle.fkv_flush.specs.Devices.{Adds}
use Rattle.fkv_keeper.specs.declared.answers.KeeperTold.{KeeperTold}
use Rattle.fkv_keeper.specs.declared.answers.KeeperTold.TheVariants.{Device}
use Rattle.fkv_keeper.specs.Answers.{is_busy}
use Rattle.fkv_keeper.specs.Keeping.{KeeperState, keeper_ask}
use Rattle.fkv_keeper.specs.KeeperAsks.{keeper_calls, keeper_read}
use Rattle.fkv_keeper.specs.KeeperRun.{KeeperEvent, Replies, Gets, Calls, keeper_run, has_failed}

-- An ask is answered: by the word as it was, by the action of the slot, or by a call of the device, however that ends.
abbrev pub IsAnswered : Plane → Ask KeeperTold → KeeperEvent → Type 0
IsAnswered plane (Done Device) (Calls done bytes) = ⊤
IsAnswered plane (Done told) event = ⊥
IsAnswered plane (Take slot) (Gets action) = action_at plane.actions slot ≡ Some action
IsAnswered plane (Take slot) event = ⊥
IsAnswered plane ask (Replies reply granted) = reply ≡ reply_to plane.words ask
IsAnswered plane ask event = ⊥

-- the slots after an ask
abbrev pub actions_after : List (Option Action) → Ask KeeperTold → List (Option Action)
actions_after actions (Put slot action) = slice_set actions slot (Some action)
actions_after actions (Take slot) = slice_set actions slot None
actions_after actions ask = actions

-- the words and the slots after an ask
abbrev pub plane_asked : Plane → Ask KeeperTold → Plane
plane_asked plane ask = record { words = words_after plane.words ask; actions = actions_after plane.actions ask }

-- The words and the slots after all asks of a call, which began in this state over these words. The newest answer stands first.
unfoldable pub plane_after : Shape → Places → KeeperState → Plane → List KeeperEvent → Plane
plane_after shape p begun plane [] = plane
plane_after shape p begun plane (event ∷ before) = plane_asked (plane_after shape p begun plane before) (keeper_ask shape p (keeper_run shape p begun before))

-- each ask was answered, by the words and the slots as they were then
unfoldable pub AreAnswered : Shape → Places → KeeperState → Plane → List KeeperEvent → Type 0
AreAnswered shape p begun plane [] = ⊤
AreAnswered shape p begun plane (event ∷ before) = IsAnswered (plane_after shape p begun plane before) (keeper_ask shape p (keeper_run shape p begun before)) event × AreAnswered shape p begun plane before

-- The call that began in this state over these words has come by these answers to this state, and left these words.
pub record IsCallBy (shape : Shape) (p : Places) (begun : KeeperState) (plane : Plane) (events : List KeeperEvent) (now : KeeperState) (left : Plane) : Type 0 where
  pub answered : AreAnswered shape p begun plane events
  pub state : now ≡ keeper_run shape p begun events
  pub words : left ≡ plane_after shape p begun plane events

-- it has, by some answers
abbrev pub IsCallSoFar : Shape → Places → KeeperState → Plane → KeeperState → Plane → Type 0
IsCallSoFar shape p begun plane now left = (events : List KeeperEvent) × IsCallBy shape p begun plane events now left

-- It has stopped: at an end, or at a slot that has no action.
abbrev pub HasStopped : Plane → Ask KeeperTold → Type 0
HasStopped plane (Take slot) = action_at plane.actions slot ≡ None
HasStopped plane ask = is_busy ask ≡ false

-- how often the device was called
unfoldable pub device_calls : List KeeperEvent → ℕ
device_calls [] = 0
device_calls (Calls done bytes ∷ before) = device_calls before + 1
device_calls (event ∷ before) = device_calls before

-- a whole call's calls of the device have failed where one has
abbrev pub calls_told : Bool → Result (Unit {0}) Fault
calls_told true = Err fault.Device
calls_told false = Ok tt

-- The device was called so often, no more and no less. Where it refuses one of these calls one has failed, and one fails only where the device's
-- count of failures rises.
pub record AreCounted (shape : Shape) (p : Places) (begun : KeeperState) (events : List KeeperEvent) (failed failed' : ℕ) (refuses refuses' : ℕ → Bool) : Type 0 where
  pub counted : MakesCalls (device_calls events) refuses refuses' (calls_told (has_failed shape p begun events))
  pub cause : HasCause failed failed' (calls_told (has_failed shape p begun events))

-- a whole turn at a device, so far
abbrev pub IsTurnSoFar : Shape → Places → KeeperState → Plane → KeeperState → Plane → ℕ → ℕ → (ℕ → Bool) → (ℕ → Bool) → Type 0
IsTurnSoFar shape p begun plane now left failed failed' refuses refuses' =
    (events : List KeeperEvent) × IsCallBy shape p begun plane events now left × AreCounted shape p begun events failed failed' refuses refuses'

-- the write or sync that an answer of the device was to
abbrev pub call_made : Shape → KeeperState → KeeperEvent → List Call
call_made shape s (Calls done bytes) = keeper_calls shape s done
call_made shape s event = []

-- the writes and syncs of the whole call, the newest first
unfoldable pub calls_made : Shape → Places → KeeperState → List KeeperEvent → List Call
calls_made shape p begun [] = []
calls_made shape p begun (event ∷ before) = call_made shape (keeper_run shape p begun before) event ++ calls_made shape p begun before

-- what a call of the device gave is what the device reads as behind the writes and syncs before it
abbrev pub IsRead : Shape → Places → KeeperState → List ℕ → List Call → KeeperEvent → Type 0
IsRead shape p s opening calls (Calls done bytes) = (seen : List ℕ) × ReadsAs opening calls seen × (bytes ≡ keeper_read (record { shape = shape; places = p; state = s }) seen)
IsRead shape p s opening calls event = ⊤

unfoldable pub AreRead : Shape → Places → KeeperState → List ℕ → List Call → List KeeperEvent → Type 0
AreRead shape p begun opening calls [] = ⊤
AreRead shape p begun opening calls (event ∷ before) =
    IsRead shape p (keeper_run shape p begun before) opening (calls_made shape p begun before ++ calls) event × AreRead shape p begun opening calls before

-- Behind what was made of it before, an honest device reads as, and may leave, what the writes and syncs of the whole call give; and it gave what it
-- read as.
pub record AreHonest (shape : Shape) (p : Places) (begun : KeeperState) (events : List KeeperEvent) (seen seen' : List ℕ) (may_leave may_leave' : List ℕ → Type 0) : Type 0 where
  pub made : Adds (calls_made shape p begun events) seen seen' may_leave may_leave'
  pub read : (opening : List ℕ) (calls : List Call) → IsAfter opening calls seen may_leave → AreRead shape p begun opening calls events

-- a whole turn at an honest device, so far
abbrev pub IsHonestTurnSoFar : Shape → Places → KeeperState → Plane → KeeperState → Plane → List ℕ → List ℕ → (List ℕ → Type 0) → (List ℕ → Type 0) → Type 0
IsHonestTurnSoFar shape p begun plane now left seen seen' may_leave may_leave' =
    (events : List KeeperEvent) × IsCallBy shape p begun plane events now left × AreHonest shape p begun events seen seen' may_leave may_leave'
