-- What a device in memory shows of itself.
use Rattle.std.specs.Prelude.{ℕ, List}
use Rattle.fkv_disk.specs.Calls.{Call}
use Rattle.fkv_disk.specs.Done.{calls_of}
use Rattle.fkv_disk.specs.declared.memory.MemDisk.{MemDisk}

-- the bytes that it reads as
abbrev pub disk_bytes : MemDisk → List ℕ
disk_bytes disk = disk.bytes.items

-- The bytes that it was made with, all of them synced. Where it has forgotten calls these are the bytes after them.
abbrev pub disk_opening : MemDisk → List ℕ
disk_opening disk = disk.opening.items

-- its writes and syncs that succeeded, the newest first, but for those that it has forgotten
abbrev pub disk_calls : MemDisk → List Call
disk_calls disk = calls_of disk.done.items

-- how many of them it has forgotten
abbrev pub disk_forgotten : MemDisk → ℕ
disk_forgotten disk = disk.forgotten

-- how many calls have failed
abbrev pub disk_failures : MemDisk → ℕ
disk_failures disk = disk.failures
