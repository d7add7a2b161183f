-- What a device shows of itself that fails once.
use Rattle.std.specs.Prelude.{ℕ, Option}
use Rattle.fkv_disk.specs.declared.single.Once.{Once}

-- the device that it passes calls on to
abbrev pub once_device : {D : Type 0} → Once D → D
once_device once = once.device

-- how many calls pass before the one that fails; None once it has failed
abbrev pub once_left : {D : Type 0} → Once D → Option ℕ
once_left once = once.left
