-- How many calls a device has met, told by what it says of those to come.
use Rattle.std.specs.Prelude.{◌≡◌, ◌⊎◌, ◌+◌, ℕ, Bool, List, [], ◌∷◌, Option}
use Rattle.fkv_disk.specs.Calls.{Call}
use Rattle.fkv_disk.specs.declared.devices.Device.{Ghosts}
use Rattle.fkv_core.specs.Worlds.{IsStep, calls_made, took_place}
use Rattle.fkv_core.specs.declared.events.Event.{Event}
use Rattle.fkv_core.specs.declared.events.Told.{Told}
use Rattle.fkv_world.specs.World.{Now}

-- What a device refuses of the calls to come is what it refused of them.
abbrev pub HasMetNone : (ℕ → Bool) → (ℕ → Bool) → Type 0
HasMetNone refuses refuses' = (i : ℕ) → refuses' i ≡ refuses i

-- Each call to come was one further away.
abbrev pub HasMetOne : (ℕ → Bool) → (ℕ → Bool) → Type 0
HasMetOne refuses refuses' = (i : ℕ) → refuses' i ≡ refuses (i + 1)

-- What a device has met of a step that wrote and synced so: this one call. Where it did neither, none or one.
abbrev pub HasMet : List Call → (ℕ → Bool) → (ℕ → Bool) → Type 0
HasMet [] refuses refuses' = HasMetNone refuses refuses' ⊎ HasMetOne refuses refuses'
HasMet (call ∷ []) refuses refuses' = HasMetOne refuses refuses'
HasMet (call ∷ other ∷ more) refuses refuses' = ⊥

-- so it is of each step of the engine, whatever its device
abbrev pub StepsMakeOneCall : {D : Type 0} → Ghosts D → Type 0
StepsMakeOneCall {D} device = (its : Event) (n after : Now) (told : Option Told) (was is : D)
    → (step : IsStep its n after told (device.failed was) (device.failed is) (device.refuses was) (device.refuses is) (device.expects was) (device.expects is) (device.honest was) (device.seen was) (device.seen is) (device.may_leave was) (device.may_leave is))
    → HasMet (calls_made n (took_place its step.granted step.done)) (device.refuses was) (device.refuses is)
