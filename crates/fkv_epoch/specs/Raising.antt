-- How an actor gets a slot, and raises the epoch.
use Rattle.std.specs.Prelude.{ℕ, ◌+◌, ◌-◌, ◌*◌, ◌<◌, ◌==◌, nat_lt, nat_le, if◌then◌else◌, ⊤}
use Rattle.fkv_base.specs.Limits.{drain_slots, last_epoch}
use Rattle.fkv_plane.specs.declared.asks.Ask.{Ask}
use Rattle.fkv_plane.specs.declared.asks.Ask.TheVariants.{Load, Cas, Add, Done}
use Rattle.fkv_plane.specs.declared.places.SharedWord.TheVariants as one
use Rattle.fkv_plane.specs.Places.{shared_place, drain_place}
use Rattle.fkv_epoch.specs.declared.raising.RaiseAnswer.{RaiseAnswer}
use Rattle.fkv_epoch.specs.declared.raising.RaiseAnswer.TheVariants as answer
use Rattle.fkv_epoch.specs.declared.raising.Raising.{Raising}
use Rattle.fkv_epoch.specs.declared.raising.Raising.TheVariants.{AtRest, LoadsEpoch, MeetsSlot, HoldsSlot, HasSlot, RaisesEpoch}

pub record Raiser : Type 0 where
  pub step : Raising

-- there are eight slots
abbrev pub IsRaiseInRange : Raising → Type 0
IsRaiseInRange AtRest = ⊤
IsRaiseInRange LoadsEpoch = ⊤
IsRaiseInRange (MeetsSlot slot) = slot < drain_slots
IsRaiseInRange (HoldsSlot slot) = slot < drain_slots
IsRaiseInRange (HasSlot slot) = slot < drain_slots
IsRaiseInRange (RaisesEpoch slot) = slot < drain_slots

-- a slot that a raise tells is one of the eight
abbrev pub HasSlotInRange : Ask RaiseAnswer → Type 0
HasSlotInRange (Done (answer.Raised slot epoch)) = slot < drain_slots
HasSlotInRange ask = ⊤

-- what each state asks
unfoldable pub raise_ask : Raising → Ask RaiseAnswer
raise_ask AtRest = Done answer.NoSlot
raise_ask LoadsEpoch = Load (shared_place one.Epoch)
raise_ask (MeetsSlot slot) = Load (drain_place slot)
raise_ask (HoldsSlot slot) = Cas (drain_place slot) 0 1
raise_ask (HasSlot slot) = Done (answer.HasSlot slot)
raise_ask (RaisesEpoch slot) = Add (shared_place one.Epoch) 1

-- the slot after one that isn't free is met, up to the last
unfoldable pub free_after : ℕ → Raising
free_after slot = if nat_lt (slot + 1) drain_slots then MeetsSlot (slot + 1) else AtRest

-- where the reply leads
unfoldable pub raise_next : Raising → ℕ → Raising
raise_next AtRest reply = AtRest
raise_next LoadsEpoch reply = if nat_le last_epoch reply then AtRest else MeetsSlot 0
raise_next (MeetsSlot slot) reply = if reply == 0 then HoldsSlot slot else free_after slot
raise_next (HoldsSlot slot) reply = if reply == 0 then HasSlot slot else free_after slot
raise_next (HasSlot slot) reply = HasSlot slot
raise_next (RaisesEpoch slot) reply = AtRest

-- what is asked next: at an end its answer, and else what the next state asks
unfoldable pub raise_next_ask : Raising → ℕ → Ask RaiseAnswer
raise_next_ask LoadsEpoch reply = if nat_le last_epoch reply then Done answer.Spent else raise_ask (MeetsSlot 0)
raise_next_ask (RaisesEpoch slot) reply = Done (answer.Raised slot reply)
raise_next_ask step reply = raise_ask (raise_next step reply)

-- where it goes on once what the epoch is raised for is stored
unfoldable pub raise_on : Raising → Raising
raise_on (HasSlot slot) = RaisesEpoch slot
raise_on step = step

-- how many asks it has left, at most, until it ends or waits for its holder: two for each slot that is still to be met
unfoldable pub raise_asks_left : Raising → ℕ
raise_asks_left AtRest = 0
raise_asks_left LoadsEpoch = 2 * drain_slots + 1
raise_asks_left (MeetsSlot slot) = 2 * (drain_slots - (slot + 1)) + 2
raise_asks_left (HoldsSlot slot) = 2 * (drain_slots - (slot + 1)) + 1
raise_asks_left (HasSlot slot) = 0
raise_asks_left (RaisesEpoch slot) = 1

-- how many come later, once its holder lets it go on
unfoldable pub raise_asks_later : Raising → ℕ
raise_asks_later AtRest = 0
raise_asks_later (RaisesEpoch slot) = 0
raise_asks_later step = 1
