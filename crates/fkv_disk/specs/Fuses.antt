-- What a fuse shows of itself.
use Rattle.std.specs.Prelude.{ℕ}
use Rattle.fkv_disk.specs.declared.fuses.Fuse.{Fuse}
use Rattle.fkv_disk.specs.declared.fuses.FuseState.{FuseState}

-- the device that it passes calls on to
abbrev pub fuse_device : {D : Type 0} → Fuse D → D
fuse_device fuse = fuse.device

abbrev pub fuse_state : {D : Type 0} → Fuse D → FuseState
fuse_state fuse = fuse.state

-- how many calls it has refused
abbrev pub fuse_refused : {D : Type 0} → Fuse D → ℕ
fuse_refused fuse = fuse.refused
