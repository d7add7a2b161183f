-- A store renewed from bytes to bytes.
use Rattle.std.specs.Prelude.{◌≡◌, ◌⊎◌, ℕ, List, Option, unwrap_or}
use Rattle.fkv_base.specs.declared.faults.Fault.{Fault}
use Rattle.fkv_base.specs.declared.faults.Fault.TheVariants.{Device, Memory}
use Rattle.fkv_base.specs.declared.numbers.Key.{Key}
use Rattle.fkv_base.specs.declared.numbers.Value.{Value}
use Rattle.fkv_base.specs.declared.shapes.Shape.{Shape}
use Rattle.fkv_opening.specs.declared.opened_store.Opened.{Opened}
use Rattle.fkv_opening.specs.Faults.{IsFaultOf}
use Rattle.fkv_opening.specs.Opened.{IsStoreOf}
use Rattle.fkv_pairs.specs.Pairs.{ArePairs, log_of_store}
use Rattle.fkv_spread.specs.declared.keys.Keys.{Keys}
use Rattle.fkv_renewing.specs.Laid.{AreLaid}
use Rattle.fkv_renewing.specs.Refused.{IsUnfit}
use Rattle.fkv_renewing.specs.Renewed.{IsRenewal}
use Rattle.fkv_renewing.specs.Room.{HasRoomFor}

-- the bytes hold this store, with these pairs
abbrev pub IsHeldIn : List ℕ → Opened → List (Key × Value) → Type 0
IsHeldIn bytes opened pairs = (held : IsStoreOf bytes opened) × ArePairs (log_of_store bytes opened held) pairs

-- the bytes have this fault, or memory was refused
abbrev pub IsUnopened : List ℕ → Fault → Type 0
IsUnopened bytes fault = (fault ≡ Memory) ⊎ IsFaultOf bytes fault

-- The image is a renewal of the store that the bytes hold, to the shape that is wanted or else to its own, which has room for it: its points, and just its pairs,
-- each with its key as it comes to lie.
pub record IsRenewedFrom (bytes : List ℕ) (wanted : Option Shape) (keys : Keys) (image : List ℕ) : Type 0 where
  pub opened : Opened
  pub pairs : List (Key × Value)
  pub laid : List (Key × Value)
  pub held : IsHeldIn bytes opened pairs
  pub are_laid : AreLaid keys pairs laid
  pub room : HasRoomFor (unwrap_or wanted opened.shape) opened.points.items laid
  pub renewed : IsRenewal (unwrap_or wanted opened.shape) opened.points.items laid image

-- that shape has no room for it, or memory was refused
pub record HasNoRoomFrom (bytes : List ℕ) (wanted : Option Shape) (keys : Keys) (fault : Fault) : Type 0 where
  pub opened : Opened
  pub pairs : List (Key × Value)
  pub laid : List (Key × Value)
  pub held : IsHeldIn bytes opened pairs
  pub are_laid : AreLaid keys pairs laid
  pub why : IsUnfit (unwrap_or wanted opened.shape) opened.points.items laid fault

-- why no image is made
abbrev pub IsRefusedFrom : List ℕ → Option Shape → Keys → Fault → Type 0
IsRefusedFrom bytes wanted keys fault = IsUnopened bytes fault ⊎ HasNoRoomFrom bytes wanted keys fault

-- a device in memory fails only for want of memory
abbrev pub in_memory : Fault → Fault
in_memory Device = Memory
in_memory other = other
