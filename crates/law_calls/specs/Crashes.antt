-- The image of a crash behind steps of the engine over a device in memory.
use Rattle.std.specs.Prelude.{◌≡◌, ℕ, List, [], Bool, not}
use Rattle.fkv_disk.specs.Calls.{is_untouched}
use Rattle.fkv_disk.specs.Fuses.{fuse_device, fuse_state}
use Rattle.fkv_disk.specs.Kinds.{Kind}
use Rattle.fkv_disk.specs.Memory.{disk_bytes, disk_calls}
use Rattle.fkv_disk.specs.declared.devices.Device.{Ghosts}
use Rattle.fkv_disk.specs.declared.fuses.Fuse.{Fuse}
use Rattle.fkv_disk.specs.declared.memory.MemDisk.{MemDisk}
use Rattle.fkv_runs.specs.Openings.{crash_image}
use Rattle.fkv_world.specs.World.{Now}
use Rattle.law_calls.specs.Met.{HasMetAll, in_notes}
use Rattle.law_calls.specs.Steps.{AreMade, Step, calls_noted, device_behind}
use Rattle.law_calls.specs.Torn.{IsTornByFuse}

-- the bytes of a device in memory that aren't synced
abbrev pub disk_unsynced : MemDisk → ℕ → Bool
disk_unsynced disk i = not (is_untouched (disk_calls disk) i)

-- Whichever calls a device in memory has met since it stood so, a crash takes the image of just these, by the rule. The image is the one that a run goes by at a crash.
abbrev pub CrashesTakeWhatIsMet : Ghosts (Fuse MemDisk) → Type 0
CrashesTakeWhatIsMet device = (was is : Fuse MemDisk) (met : List Kind) → HasMetAll device was is met → (torn : ℕ)
    → IsTornByFuse (fuse_state was) (disk_bytes (fuse_device was)) (disk_unsynced (fuse_device was)) met torn (crash_image device.expects is torn)

-- So it is behind steps of the engine: there the calls that were met are the writes and syncs that the steps note, each as it was noted, and else reads.
abbrev pub CrashesTakeWhatStepsNote : Ghosts (Fuse MemDisk) → Type 0
CrashesTakeWhatStepsNote device = (n : Now) (was : Fuse MemDisk) (steps : List (Step (Fuse MemDisk))) (made : AreMade device n was steps) (torn : ℕ)
    → (met : List Kind) × HasMetAll device was (device_behind was steps) met × (in_notes met [] ≡ calls_noted device n was steps made)
    × IsTornByFuse (fuse_state was) (disk_bytes (fuse_device was)) (disk_unsynced (fuse_device was)) met torn (crash_image device.expects (device_behind was steps) torn)
