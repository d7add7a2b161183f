-- A raise stays at one of the eight slots, and tells one of them; and it asks next where its state asks.
use Rattle.std.proofs.Common.{◌≡◌, ℕ, ◌+◌, ◌<◌, Bool, true, false, refl, arith}
use Rattle.fkv_base.specs.Limits.{drain_slots, last_epoch}
use Rattle.std.specs.Prelude.{◌==◌, nat_lt, nat_le, if◌then◌else◌}
use Rattle.std.proofs.lemmas.Bool.Decides.{nat_tests}
use Rattle.fkv_plane.specs.declared.asks.Ask.{Ask}
use Rattle.fkv_plane.specs.declared.asks.Ask.TheVariants.{Done}
use Rattle.fkv_epoch.specs.declared.raising.RaiseAnswer.{RaiseAnswer}
use Rattle.fkv_epoch.specs.declared.raising.RaiseAnswer.TheVariants as answer
use Rattle.fkv_epoch.specs.declared.raising.Raising.{Raising}
use Rattle.fkv_epoch.specs.declared.raising.Raising.TheVariants.{AtRest, LoadsEpoch, MeetsSlot, HoldsSlot, HasSlot, RaisesEpoch}
use Rattle.fkv_epoch.specs.Raising.{HasSlotInRange, IsRaiseInRange, raise_ask, raise_next, raise_next_ask, raise_on, free_after}
use Rattle.fkv_plane.specs.Passing.{is_done}

either : (b : Bool) (x y : Raising) → IsRaiseInRange x → IsRaiseInRange y → IsRaiseInRange (if b then x else y)
either true x y p q = p
either false x y p q = q

free_where : (slot : ℕ) (b : Bool) → nat_lt (slot + 1) drain_slots ≡ b → IsRaiseInRange (if b then MeetsSlot (slot + 1) else AtRest)
free_where slot true e = let below : slot + 1 < drain_slots = grind (arith, nat_tests, e) in below
free_where slot false e = tt

free_in_range : (slot : ℕ) → IsRaiseInRange (free_after slot)
unfolding free_after
free_in_range slot = free_where slot (nat_lt (slot + 1) drain_slots) refl

pub next_in_range : (step : Raising) (reply : ℕ) → IsRaiseInRange step → IsRaiseInRange (raise_next step reply)
unfolding raise_next
next_in_range AtRest reply h = tt
next_in_range LoadsEpoch reply h = either (nat_le last_epoch reply) AtRest (MeetsSlot 0) tt (let below : 0 < drain_slots = omega arith in below)
next_in_range (MeetsSlot slot) reply h = either (reply == 0) (HoldsSlot slot) (free_after slot) h (free_in_range slot)
next_in_range (HoldsSlot slot) reply h = either (reply == 0) (HasSlot slot) (free_after slot) h (free_in_range slot)
next_in_range (HasSlot slot) reply h = h
next_in_range (RaisesEpoch slot) reply h = tt

pub on_in_range : (step : Raising) → IsRaiseInRange step → IsRaiseInRange (raise_on step)
unfolding raise_on
on_in_range AtRest h = h
on_in_range LoadsEpoch h = h
on_in_range (MeetsSlot slot) h = h
on_in_range (HoldsSlot slot) h = h
on_in_range (HasSlot slot) h = h
on_in_range (RaisesEpoch slot) h = h

pub ask_in_range : (step : Raising) → HasSlotInRange (raise_ask step)
unfolding raise_ask
ask_in_range AtRest = tt
ask_in_range LoadsEpoch = tt
ask_in_range (MeetsSlot slot) = tt
ask_in_range (HoldsSlot slot) = tt
ask_in_range (HasSlot slot) = tt
ask_in_range (RaisesEpoch slot) = tt

either_ask : (b : Bool) (x y : Ask RaiseAnswer) → HasSlotInRange x → HasSlotInRange y → HasSlotInRange (if b then x else y)
either_ask true x y p q = p
either_ask false x y p q = q

pub next_ask_in_range : (step : Raising) (reply : ℕ) → IsRaiseInRange step → HasSlotInRange (raise_next_ask step reply)
unfolding raise_next_ask
next_ask_in_range AtRest reply h = ask_in_range (raise_next AtRest reply)
next_ask_in_range LoadsEpoch reply h = either_ask (nat_le last_epoch reply) (Done answer.Spent) (raise_ask (MeetsSlot 0)) tt (ask_in_range (MeetsSlot 0))
next_ask_in_range (MeetsSlot slot) reply h = ask_in_range (raise_next (MeetsSlot slot) reply)
next_ask_in_range (HoldsSlot slot) reply h = ask_in_range (raise_next (HoldsSlot slot) reply)
next_ask_in_range (HasSlot slot) reply h = ask_in_range (raise_next (HasSlot slot) reply)
next_ask_in_range (RaisesEpoch slot) reply h = h

pub next_ask_asks : (step : Raising) (reply : ℕ) → is_done (raise_next_ask step reply) ≡ is_done (raise_ask (raise_next step reply))
unfolding raise_next_ask raise_next raise_ask
next_ask_asks LoadsEpoch reply = tested (nat_le last_epoch reply)
  where
    tested : (b : Bool) → is_done (if b then Done answer.Spent else raise_ask (MeetsSlot 0)) ≡ is_done (raise_ask (if b then AtRest else MeetsSlot 0))
    tested true = refl
    tested false = refl
next_ask_asks step reply = refl
