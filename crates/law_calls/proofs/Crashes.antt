-- The image of a crash behind steps of the engine, by what the device foretells.
use Rattle.std.proofs.Common.{◌≡◌, ◌∙◌, List, [], sym, ap, subst}
use Rattle.std.specs.Prelude.{◌++◌}
use Rattle.fkv_disk.specs.Done.{calls_of}
use Rattle.fkv_disk.specs.Fuse.{fuse_foretells}
use Rattle.fkv_disk.specs.Fuses.{fuse_device, fuse_state}
use Rattle.fkv_disk.specs.Kinds.{Foretold, Kind}
use Rattle.fkv_disk.specs.Memory.{disk_bytes}
use Rattle.fkv_disk.specs.declared.devices.Device.{Ghosts}
use Rattle.fkv_disk.specs.declared.fuses.Fuse.{Fuse}
use Rattle.fkv_disk.specs.declared.memory.MemDisk.{MemDisk}
use Rattle.fkv_runs.specs.Openings.{foretold_image}
use Rattle.law_calls.specs.Crashes.{CrashesTakeWhatIsMet, CrashesTakeWhatStepsNote, disk_unsynced}
use Rattle.law_calls.specs.Steps.{device_behind}
use Rattle.law_calls.specs.Torn.{IsTornByFuse}
use Rattle.law_calls.proofs.Fuses.{in_memory, torn_since}
use Rattle.law_calls.proofs.CallsMet.{all_met}

-- what a fuse around a device in memory foretells
abbrev pub ForetellsAsFuse : Ghosts (Fuse MemDisk) → Type 0
ForetellsAsFuse device = (fuse : Fuse MemDisk) → device.expects fuse ≡ fuse_foretells fuse.state (in_memory fuse.device.opening.items (calls_of fuse.device.done.items))

pub takes_what_is_met : (device : Ghosts (Fuse MemDisk)) → ForetellsAsFuse device → CrashesTakeWhatIsMet device
takes_what_is_met device as_fuse was is met has torn =
    let foretold = sym (ap (λ (says : List Kind → Foretold). says []) (as_fuse is)) ∙ has.foretells [] ∙ ap (λ (says : List Kind → Foretold). says (met ++ [])) (as_fuse was) in
    let its = torn_since was is met torn foretold in
    subst (λ (f : Foretold). IsTornByFuse (fuse_state was) (disk_bytes (fuse_device was)) (disk_unsynced (fuse_device was)) met torn (foretold_image f torn))
    (sym (ap (λ (says : List Kind → Foretold). says []) (as_fuse is))) its

pub crashes_take : (device : Ghosts (Fuse MemDisk)) → ForetellsAsFuse device → CrashesTakeWhatStepsNote device
crashes_take device as_fuse n was steps made torn =
    let met = all_met device n was steps made in
    (met.0, met.1, met.2, takes_what_is_met device as_fuse was (device_behind was steps) met.0 met.1 torn)
