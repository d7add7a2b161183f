-- What a device that reads ahead shows of itself.
use Rattle.std.specs.Prelude.{ℕ}
use Rattle.fkv_disk.specs.Pages.{AreKept}
use Rattle.fkv_disk.specs.declared.ahead.ReadAhead.{ReadAhead}

-- the device that it reads
abbrev pub ahead_device : {D : Type 0} {g : _} → ReadAhead D g → D
ahead_device ahead = ahead.device

-- the n bytes from an offset on lie in a page that it keeps
abbrev pub HasKept : {D : Type 0} {g : _} → ReadAhead D g → ℕ → ℕ → Type 0
HasKept ahead at n = AreKept ahead.size ahead.pages.items at n
