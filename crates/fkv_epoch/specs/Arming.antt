-- How a held slot is armed.
use Rattle.std.specs.Prelude.{ℕ, ◌+◌, ◌^◌, ◌<◌, ⊤}
use Rattle.fkv_base.specs.Limits.{drain_slots}
use Rattle.fkv_plane.specs.declared.asks.Ask.{Ask}
use Rattle.fkv_plane.specs.declared.asks.Ask.TheVariants.{Store, Done}
use Rattle.fkv_plane.specs.Places.{drain_place}
use Rattle.fkv_epoch.specs.declared.arming.Arming.{Arming}
use Rattle.fkv_epoch.specs.declared.arming.Arming.TheVariants.{AtRest, PutsAction, StoresEpoch}

pub record Armer : Type 0 where
  pub step : Arming

-- there are eight slots, and a slot's word holds the epoch and 2
abbrev pub IsArmInRange : Arming → Type 0
IsArmInRange AtRest = ⊤
IsArmInRange (PutsAction slot epoch) = (slot < drain_slots) × (epoch + 2 < 2 ^ 64)
IsArmInRange (StoresEpoch slot epoch) = (slot < drain_slots) × (epoch + 2 < 2 ^ 64)

-- what each state asks. The ask that puts the action went out with it at the start
unfoldable pub arm_ask : Arming → Ask (Unit {0})
arm_ask AtRest = Done tt
arm_ask (PutsAction slot epoch) = Done tt
arm_ask (StoresEpoch slot epoch) = Store (drain_place slot) (epoch + 2)

-- where the reply leads
unfoldable pub arm_next : Arming → Arming
arm_next AtRest = AtRest
arm_next (PutsAction slot epoch) = StoresEpoch slot epoch
arm_next (StoresEpoch slot epoch) = AtRest

-- how many asks it has left: the one that puts the action, and the store
unfoldable pub arm_asks_left : Arming → ℕ
arm_asks_left AtRest = 0
arm_asks_left (PutsAction slot epoch) = 2
arm_asks_left (StoresEpoch slot epoch) = 1
