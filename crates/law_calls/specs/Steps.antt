-- Steps of the engine over a device, one behind the other, and the calls that they note.
use Rattle.std.specs.Prelude.{⊤, List, [], ◌∷◌, ◌++◌, Option}
use Rattle.fkv_disk.specs.Calls.{Call}
use Rattle.fkv_disk.specs.declared.devices.Device.{Ghosts}
use Rattle.fkv_core.specs.Worlds.{IsStep, calls_made, took_place}
use Rattle.fkv_core.specs.declared.events.Event.{Event}
use Rattle.fkv_core.specs.declared.events.Told.{Told}
use Rattle.fkv_world.specs.World.{Now}

-- one step: what was to happen, what was told, and the world and the device behind it
pub record Step (D : Type 0) : Type 0 where
  pub event : Event
  pub told : Option Told
  pub now : Now
  pub device : D

-- the world and the device behind all of them; lists of steps have the newest first
abbrev pub now_behind : {D : Type 0} → Now → List (Step D) → Now
now_behind n [] = n
now_behind n (step ∷ before) = step.now

abbrev pub device_behind : {D : Type 0} → D → List (Step D) → D
device_behind device [] = device
device_behind device (step ∷ before) = step.device

-- what a call of the engine's step has made, by its contract
abbrev pub IsMade : {D : Type 0} → Ghosts D → Now → D → Step D → Type 0
IsMade device n was step =
    IsStep step.event n step.now step.told (device.failed was) (device.failed step.device) (device.refuses was) (device.refuses step.device) (device.expects was) (device.expects step.device)
    (device.honest was) (device.seen was) (device.seen step.device) (device.may_leave was) (device.may_leave step.device)

-- so it is of each of them, taken where the one before it stood
abbrev pub AreMade : {D : Type 0} → Ghosts D → Now → D → List (Step D) → Type 0
AreMade device n was [] = ⊤
AreMade device n was (step ∷ before) = IsMade device (now_behind n before) (device_behind was before) step × AreMade device n was before

-- the writes and syncs that they note, the newest first, each with whether it came through
abbrev pub calls_noted : {D : Type 0} → (device : Ghosts D) → (n : Now) → (was : D) → (steps : List (Step D)) → AreMade device n was steps → List Call
calls_noted device n was [] made = []
calls_noted device n was (step ∷ before) made = calls_made (now_behind n before) (took_place step.event made.0.granted made.0.done) ++ calls_noted device n was before made.1
