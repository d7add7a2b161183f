-- What the program's clauses go by, of a device in memory and of files. A device is given as the record of what its type claims.
use Rattle.std.specs.Prelude.{ℕ, Bool, List, Option}
use Rattle.fkv_cli.specs.Output.{Devices, Places, places_of}
use Rattle.fkv_disk.specs.declared.devices.Device.{Ghosts}
use Rattle.fkv_playing.specs.Players.{EngineStep, PlayerState}
use Rattle.fkv_playing.specs.declared.players.Waits.{Waits}
use Rattle.fkv_runs.specs.Below.fkv_core.Event.{Event}
use Rattle.fkv_runs.specs.Below.fkv_core.TheTold.{Told}
use Rattle.fkv_runs.specs.Below.fkv_core.Worlds.{WorldModel}
use Rattle.fkv_runs.specs.Openings.{Holds, Medium, medium_of}

-- what a step of the engine over it is
abbrev pub step_of : {D : Type 0} → Ghosts D → (D → Bool) → Event → WorldModel D → WorldModel D → Option Told → Bool → Type 0
step_of device broken = EngineStep device.honest device.seen device.may_leave device.failed device.refuses device.expects broken

-- when it holds an image
abbrev pub holds_of : {D : Type 0} → Ghosts D → List ℕ → D → Type 0
holds_of device = Holds device.honest device.seen device.may_leave device.refuses

-- one in memory, which crashes leave an image of, and which is made to fail
abbrev pub memory_of : {M : Type 0} → Ghosts M → (M → Bool) → (ℕ → Waits → PlayerState M → PlayerState M → Type 0) → Medium M
memory_of device broken armed = medium_of device.honest device.seen device.may_leave device.failed device.refuses device.expects broken armed

-- and files, with which one is that of a path: as it was opened, for a store that is there, and for a new one
abbrev pub files_of : {F : Type 0} → Ghosts F → (F → Bool) → (List ℕ → F → Type 0) → (List ℕ → F → Type 0) → Places F
files_of device broken is_opened is_made = places_of device.honest device.seen device.may_leave device.failed device.refuses device.expects broken is_opened is_made

abbrev pub devices_of : {M F : Type 0} → Medium M → Places F → Devices M F
devices_of memory file = record { memory = memory; file = file }
