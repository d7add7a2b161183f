-- What a file as a device shows of itself.
use Rattle.std.specs.Prelude.{ℕ}
use Rattle.fkv_disk.specs.declared.files.FileDisk.{FileDisk}

-- how many calls have failed
abbrev pub file_failures : {F : Type 0} → FileDisk F → ℕ
file_failures disk = disk.failures
