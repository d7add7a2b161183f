-- Which calls a device has met, told by what it says of those to come.
use Rattle.std.specs.Prelude.{◌≡◌, ℕ, ◌+◌, List, [], ◌∷◌, ◌++◌, length}
use Rattle.fkv_disk.specs.Calls.{Call, Write, Sync}
use Rattle.fkv_disk.specs.Kinds.{Kind, Reading, Writing, Syncing}
use Rattle.fkv_disk.specs.declared.devices.Device.{Ghosts}
use Rattle.fkv_world.specs.World.{Now}
use Rattle.law_calls.specs.Steps.{AreMade, Step, calls_noted, device_behind}

-- A device has met these calls, the oldest first, and no other: it says of the calls to come what it said of them behind these.
pub record HasMetAll {D : Type 0} (device : Ghosts D) (was is : D) (met : List Kind) : Type 0 where
  pub foretells : (later : List Kind) → device.expects is later ≡ device.expects was (met ++ later)
  pub refuses : (i : ℕ) → device.refuses is i ≡ device.refuses was (i + length met)

-- the writes and syncs among these calls, as a past notes them: the newest first, in front of those of before
abbrev pub in_notes : List Kind → List Call → List Call
in_notes [] before = before
in_notes (Reading ∷ later) before = in_notes later before
in_notes (Writing at bytes done ∷ later) before = in_notes later (Write at bytes done ∷ before)
in_notes (Syncing done ∷ later) before = in_notes later (Sync done ∷ before)

-- Over steps of the engine any device has met the writes and syncs that they note, each as it was noted, and else reads.
abbrev pub StepsMakeWhatTheyNote : {D : Type 0} → Ghosts D → Type 0
StepsMakeWhatTheyNote {D} device = (n : Now) (was : D) (steps : List (Step D)) (made : AreMade device n was steps)
    → (met : List Kind) × HasMetAll device was (device_behind was steps) met × (in_notes met [] ≡ calls_noted device n was steps made)
