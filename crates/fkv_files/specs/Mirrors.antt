-- What a device that is kept in memory too shows of itself.
use Rattle.std.specs.Prelude.{◌≡◌, ℕ, List, Bool, false}
use Rattle.fkv_disk.specs.Calls.{Call}
use Rattle.fkv_disk.specs.Device.{IsAfter}
use Rattle.fkv_disk.specs.Memory.{disk_bytes, disk_calls, disk_opening}
use Rattle.fkv_disk.specs.declared.devices.Device.{Ghosts}
use Rattle.fkv_files.specs.declared.mirrors.Mirror.{Mirror}

-- the device that its writes and syncs go on to
abbrev pub mirror_device : {D : Type 0} {g : _} → Mirror D g → D
mirror_device mirror = mirror.device

-- the bytes that it reads as
abbrev pub mirror_bytes : {D : Type 0} {g : _} → Mirror D g → List ℕ
mirror_bytes mirror = disk_bytes mirror.memory

-- those that it was made with
abbrev pub mirror_opening : {D : Type 0} {g : _} → Mirror D g → List ℕ
mirror_opening mirror = disk_opening mirror.memory

-- its writes and syncs since, the newest first
abbrev pub mirror_calls : {D : Type 0} {g : _} → Mirror D g → List Call
mirror_calls mirror = disk_calls mirror.memory

-- its device has refused a call
abbrev pub is_lost : {D : Type 0} {g : _} → Mirror D g → Bool
is_lost mirror = mirror.is_lost

-- Until its device has refused a call that one, if it is honest, reads as, and may leave, what its calls give.
pub mirror_after : {D : Type 0} {g : Ghosts D} (mirror : Mirror D g) → is_lost mirror ≡ false → g.honest (mirror_device mirror)
    → IsAfter (mirror_opening mirror) (mirror_calls mirror) (g.seen (mirror_device mirror)) (g.may_leave (mirror_device mirror))
mirror_after mirror passed h = mirror.after passed h
