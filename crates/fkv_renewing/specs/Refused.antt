-- Why a renewal is refused.
use Rattle.std.specs.Prelude.{ℕ, List}
use Rattle.fkv_base.specs.declared.faults.Fault.{Fault}
use Rattle.fkv_base.specs.declared.faults.Fault.TheVariants.{Device, IndexFull, LogFull, Memory, NoSession}
use Rattle.fkv_base.specs.declared.numbers.Key.{Key}
use Rattle.fkv_base.specs.declared.numbers.Serial.{Serial}
use Rattle.fkv_base.specs.declared.numbers.Value.{Value}
use Rattle.fkv_base.specs.declared.shapes.Shape.{Shape}
use Rattle.fkv_disk.specs.Device.{Rose}
use Rattle.fkv_renewing.specs.Room.{HasPlaces, HasSessions, HasSlots}

-- the shape has no room, or memory was refused
abbrev pub IsUnfit : Shape → List Serial → List (Key × Value) → Fault → Type 0
IsUnfit shape points pairs NoSession = HasSessions shape points → ⊥
IsUnfit shape points pairs LogFull = HasPlaces shape pairs → ⊥
IsUnfit shape points pairs IndexFull = HasSlots shape pairs → ⊥
IsUnfit shape points pairs Memory = Unit {0}
IsUnfit shape points pairs other = ⊥

-- the same, or the device failed in this call
abbrev pub IsRefused : Shape → List Serial → List (Key × Value) → ℕ → ℕ → Fault → Type 0
IsRefused shape points pairs before now Device = Rose before now
IsRefused shape points pairs before now other = IsUnfit shape points pairs other
