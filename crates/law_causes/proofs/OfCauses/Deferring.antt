-- How a deferral goes on that has begun: it seeks a slot, holds one, and then raises the epoch and arms the slot.
use Rattle.std.proofs.Common.{◌≡◌, ℕ, ◌+◌, refl, inl, inr, ◌⊎◌, sym, subst, Bool, true, false}
use Rattle.std.specs.Prelude.{⊤, ◌==◌, nat_lt, nat_le}
use Rattle.fkv_base.specs.Limits.{drain_slots, last_epoch}
use Rattle.fkv_plane.specs.declared.asks.Ask.{Ask}
use Rattle.fkv_plane.specs.declared.asks.Ask.TheVariants.{Done}
use Rattle.fkv_plane.specs.Passing.{passed, is_done}
use Rattle.fkv_epoch.specs.declared.arming.Arming.TheVariants as arm
use Rattle.fkv_epoch.specs.declared.raising.RaiseAnswer.{RaiseAnswer}
use Rattle.fkv_epoch.specs.declared.raising.RaiseAnswer.TheVariants as raised
use Rattle.fkv_epoch.specs.declared.raising.Raising.{Raising}
use Rattle.fkv_epoch.specs.declared.raising.Raising.TheVariants as raise
use Rattle.fkv_epoch.specs.Arming.{arm_ask, arm_next}
use Rattle.fkv_epoch.specs.Raising.{free_after, raise_ask, raise_next, raise_next_ask, raise_on}
use Rattle.fkv_commit.specs.declared.deferring.DeferAnswer.TheVariants.{Armed, Held, NoSlot, Spent}
use Rattle.fkv_commit.specs.declared.deferring.Deferred.{Deferred}
use Rattle.fkv_commit.specs.declared.deferring.Deferring.{Deferring}
use Rattle.fkv_commit.specs.declared.deferring.Deferring.TheVariants as defer
use Rattle.fkv_commit.specs.Deferring.{DeferState, arm_ledto, defer_ask, defer_begun, defer_next, defer_on, deferring_ask, deferring_next, deferring_on, raise_ledto, seek_ledto}
use Rattle.law_causes.proofs.OfCauses.Asking.{passed_on}

either : (b : Bool) → (b ≡ true) ⊎ (b ≡ false)
either true = inl refl
either false = inr refl

-- ---- a slot is sought
abbrev pub IsSeeking : Raising → Type 0
IsSeeking raise.LoadsEpoch = ⊤
IsSeeking (raise.MeetsSlot slot) = ⊤
IsSeeking (raise.HoldsSlot slot) = ⊤
IsSeeking step = ⊥

seeking_asks : (r : Raising) → IsSeeking r → is_done (raise_ask r) ≡ false
unfolding raise_ask
seeking_asks raise.AtRest is = absurd is
seeking_asks raise.LoadsEpoch is = refl
seeking_asks (raise.MeetsSlot slot) is = refl
seeking_asks (raise.HoldsSlot slot) is = refl
seeking_asks (raise.HasSlot slot) is = absurd is
seeking_asks (raise.RaisesEpoch slot) is = absurd is

-- it goes on seeking, has one, or ends without one
pub data Sought (next : Raising) (ask : Ask RaiseAnswer) : Type 0 where
  SeeksOn : IsSeeking next → ask ≡ raise_ask next → Sought next ask
  HasOne : (slot : ℕ) → next ≡ raise.HasSlot slot → ask ≡ Done (raised.HasSlot slot) → Sought next ask
  HasNone : ask ≡ Done raised.NoSlot → Sought next ask
  IsLast : ask ≡ Done raised.Spent → Sought next ask

freed : (slot : ℕ) → Sought (free_after slot) (raise_ask (free_after slot))
unfolding free_after raise_ask
freed slot = elim (either (nat_lt (slot + 1) drain_slots)) [
  | inl e ↦ rw e (SeeksOn tt refl)
  | inr e ↦ rw e (HasNone refl)
]

sought_on : (r : Raising) (reply : ℕ) → IsSeeking r → Sought (raise_next r reply) (raise_next_ask r reply)
unfolding raise_next raise_next_ask raise_ask
sought_on raise.AtRest reply is = absurd is
sought_on raise.LoadsEpoch reply is = elim (either (nat_le last_epoch reply)) [
  | inl e ↦ rw e (IsLast refl)
  | inr e ↦ rw e (SeeksOn tt refl)
]
sought_on (raise.MeetsSlot slot) reply is = elim (either (reply == 0)) [
  | inl e ↦ rw e (SeeksOn tt refl)
  | inr e ↦ rw e (freed slot)
]
sought_on (raise.HoldsSlot slot) reply is = elim (either (reply == 0)) [
  | inl e ↦ rw e (HasOne slot refl refl)
  | inr e ↦ rw e (freed slot)
]
sought_on (raise.HasSlot slot) reply is = absurd is
sought_on (raise.RaisesEpoch slot) reply is = absurd is

-- ---- a deferral
pub record Seeks (d : DeferState) : Type 0 where
  pub its_step : d.step ≡ defer.Seeks
  pub sought : IsSeeking d.raising

pub record Holds (d : DeferState) : Type 0 where
  pub its_step : d.step ≡ defer.Holds
  pub slot : ℕ
  pub held : d.raising ≡ raise.HasSlot slot

abbrev pub DefersAt : DeferState → Deferring → Type 0
DefersAt d (defer.Raises its) = (slot : ℕ) × (d.raising ≡ raise.RaisesEpoch slot)
DefersAt d (defer.Puts its slot epoch) = d.arming ≡ arm.PutsAction slot epoch
DefersAt d (defer.Arms epoch) = (slot : ℕ) × (at : ℕ) × (d.arming ≡ arm.StoresEpoch slot at)
DefersAt d step = ⊥

abbrev pub Defers : DeferState → Type 0
Defers d = DefersAt d d.step

pub begins : (d : DeferState) → Seeks (defer_begun d)
begins d = record { its_step = refl; sought = tt }

pub seeks_asks : (d : DeferState) → Seeks d → is_done (defer_ask d) ≡ false
unfolding deferring_ask
seeks_asks d is = rw is.its_step (passed_on (raise_ask d.raising) NoSlot (seeking_asks d.raising is.sought))

defers_at : (d : DeferState) (step : Deferring) → DefersAt d step → is_done (deferring_ask d step) ≡ false
unfolding deferring_ask raise_ask arm_ask passed
defers_at d (defer.Ended its) is = absurd is
defers_at d defer.Seeks is = absurd is
defers_at d defer.Holds is = absurd is
defers_at d (defer.Raises its) is = rw is.1 refl
defers_at d (defer.Puts its slot epoch) is = refl
defers_at d (defer.Arms epoch) is = rw is.2 refl

pub defers_asks : (d : DeferState) → Defers d → is_done (defer_ask d) ≡ false
defers_asks d is = defers_at d d.step is

-- what a reply leads to as a slot is sought
pub data SeekLed (d : DeferState) : Type 0 where
  GoesOn : Seeks d → SeekLed d
  HasHeld : defer_ask d ≡ Done Held → Holds d → SeekLed d
  HasNoSlot : defer_ask d ≡ Done NoSlot → SeekLed d
  HasSpent : defer_ask d ≡ Done Spent → SeekLed d

seek_still : (d : DeferState) (ask : Ask RaiseAnswer) → is_done ask ≡ false → seek_ledto d ask ≡ d
unfolding seek_ledto
seek_still d (Done its) e = cc
seek_still d ask e = refl

seek_led : (d : DeferState) (ask : Ask RaiseAnswer) → d.step ≡ defer.Seeks → Sought d.raising ask → SeekLed (seek_ledto d ask)
unfolding seek_ledto deferring_ask raise_ask
seek_led d ask e (SeeksOn is same) =
    let on : is_done ask ≡ false = rw same (seeking_asks d.raising is) in
    subst SeekLed (sym (seek_still d ask on)) (GoesOn (record { its_step = e; sought = is }))
seek_led d ask e (HasOne slot has asks) = rw asks (HasHeld refl (record { its_step = refl; slot = slot; held = has }))
seek_led d ask e (HasNone asks) = rw asks (HasNoSlot refl)
seek_led d ask e (IsLast asks) = rw asks (HasSpent refl)

pub seeks_on : (d : DeferState) (reply : ℕ) → Seeks d → SeekLed (defer_next d reply)
unfolding deferring_next
seeks_on d reply is =
    subst (λ (step : Deferring). SeekLed (deferring_next d step reply)) (sym is.its_step)
    (seek_led (record d { raising = raise_next d.raising reply }) (raise_next_ask d.raising reply) is.its_step (sought_on d.raising reply is.sought))

-- a held slot is used
pub holds_on : (d : DeferState) (its : Deferred) → Holds d → Defers (defer_on d its)
unfolding deferring_on raise_on
holds_on d its is = rw is.its_step (rw is.held (is.slot, refl))

-- what a reply leads to then: it goes on, or the slot is armed
pub data DeferLed (d : DeferState) : Type 0 where
  DefersOn : Defers d → DeferLed d
  HasArmed : (epoch : ℕ) → defer_ask d ≡ Done (Armed epoch) → DeferLed d

defer_led : (d : DeferState) (step : Deferring) (reply : ℕ) → DefersAt d step → DeferLed (deferring_next d step reply)
unfolding deferring_next raise_next raise_next_ask raise_ledto arm_ledto arm_next arm_ask deferring_ask
defer_led d (defer.Ended its) reply is = absurd is
defer_led d defer.Seeks reply is = absurd is
defer_led d defer.Holds reply is = absurd is
defer_led d (defer.Raises its) reply is = rw is.1 (DefersOn refl)
defer_led d (defer.Puts its slot epoch) reply is = rw is (DefersOn (slot, epoch, refl))
defer_led d (defer.Arms epoch) reply is = rw is.2 (HasArmed epoch refl)

pub defers_on : (d : DeferState) (reply : ℕ) → Defers d → DeferLed (defer_next d reply)
defers_on d reply is = defer_led d d.step reply is
