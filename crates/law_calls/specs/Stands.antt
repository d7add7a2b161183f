-- How a device in memory stands behind calls that it has met, where a fuse around it has let each of them pass.
use Rattle.std.specs.Prelude.{◌≡◌, ⊤, ℕ, ◌-◌, ◌≤◌, List, length}
use Rattle.fkv_disk.specs.Bytes.{byte_at}
use Rattle.fkv_disk.specs.Fuses.{fuse_device, fuse_state}
use Rattle.fkv_disk.specs.Kinds.{Kind}
use Rattle.fkv_disk.specs.Memory.{disk_bytes}
use Rattle.fkv_disk.specs.declared.devices.Device.{Ghosts}
use Rattle.fkv_disk.specs.declared.fuses.Fuse.{Fuse}
use Rattle.fkv_disk.specs.declared.fuses.FuseState.{FuseState}
use Rattle.fkv_disk.specs.declared.fuses.FuseState.TheVariants.{Sound, Armed, Blown, BlownAt}
use Rattle.fkv_disk.specs.declared.memory.MemDisk.{MemDisk}
use Rattle.law_calls.specs.Crashes.{disk_unsynced}
use Rattle.law_calls.specs.Met.{HasMetAll}
use Rattle.law_calls.specs.Torn.{is_unsynced, last_byte, last_end}

-- a fuse lets so many calls pass, all of them
abbrev pub LetsPass : FuseState → ℕ → Type 0
LetsPass Sound n = ⊤
LetsPass (Armed left) n = n ≤ left
LetsPass Blown n = ⊥
LetsPass (BlownAt at m) n = ⊥

-- and stands so behind them
abbrev pub state_behind : FuseState → ℕ → FuseState
state_behind Sound n = Sound
state_behind (Armed left) n = Armed (left - n)
state_behind Blown n = Blown
state_behind (BlownAt at m) n = BlownAt at m

-- The fuse is nearer to its blowing by these calls. The device reads as what was written last, and has just that of it unsynced which no sync has followed.
pub record StandsBehind (was is : Fuse MemDisk) (met : List Kind) : Type 0 where
  pub state : fuse_state is ≡ state_behind (fuse_state was) (length met)
  pub ends : length (disk_bytes (fuse_device is)) ≡ last_end met (length (disk_bytes (fuse_device was)))
  pub reads : (i : ℕ) → byte_at (disk_bytes (fuse_device is)) i ≡ last_byte met (byte_at (disk_bytes (fuse_device was)) i) i
  pub unsynced : (i : ℕ) → disk_unsynced (fuse_device is) i ≡ is_unsynced met (disk_unsynced (fuse_device was) i) i

-- So it is whichever calls it has met, if the fuse has let each pass.
abbrev pub FusesStandBehindCalls : Ghosts (Fuse MemDisk) → Type 0
FusesStandBehindCalls device = (was is : Fuse MemDisk) (met : List Kind) → HasMetAll device was is met → LetsPass (fuse_state was) (length met) → StandsBehind was is met
