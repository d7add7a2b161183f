-- What is told as a slot is sought, and as an action is deferred.
use Rattle.std.proofs.Common.{◌≡◌, ◌≢◌, ℕ, ◌+◌, ◌<◌, ◌≤◌, refl, subst, inl, inr, ◌⊎◌, arith, List, Bool, true, false}
use Rattle.std.specs.Prelude.{⊤, ◌∷◌, ◌==◌, nat_lt, nat_le}
use Rattle.std.proofs.lemmas.Bool.Decides.{nat_tests}
use Rattle.fkv_base.specs.Limits.{drain_slots, last_epoch}
use Rattle.fkv_plane.specs.declared.asks.Ask.TheVariants.{Load, Cas, Add, Put, Done}
use Rattle.fkv_plane.specs.declared.places.SharedWord.TheVariants as one
use Rattle.fkv_plane.specs.Places.{shared_place, drain_place}
use Rattle.fkv_plane.specs.Passing.{passed, is_done}
use Rattle.fkv_epoch.specs.declared.raising.Raising.{Raising}
use Rattle.fkv_epoch.specs.declared.raising.Raising.TheVariants as raise
use Rattle.fkv_epoch.specs.declared.arming.Arming.{Arming}
use Rattle.fkv_epoch.specs.declared.arming.Arming.TheVariants as arm
use Rattle.fkv_epoch.specs.Raising.{raise_ask, raise_next, raise_next_ask, raise_on, free_after}
use Rattle.fkv_epoch.specs.Arming.{arm_ask, arm_next}
use Rattle.fkv_commit.specs.declared.deferring.Deferred.{Deferred}
use Rattle.fkv_commit.specs.declared.deferring.DeferAnswer.TheVariants.{Held, NoSlot, Spent, Armed}
use Rattle.fkv_commit.specs.declared.deferring.Deferring.{Deferring}
use Rattle.fkv_commit.specs.declared.deferring.Deferring.TheVariants as defer
use Rattle.fkv_commit.specs.Deferring.{DeferState, defer_begun, action_of, armed_epoch, defer_ask, deferring_ask, defer_next, deferring_next, defer_on, deferring_on, seek_ledto, raise_ledto, arm_ledto}
use Rattle.fkv_commit.specs.Exchanges.{Exchange, exchange, exchanged, AreIdle, HoldsSlot, WasTaken, WereTaken, WasEpochLast, WasEpochBelow, MeetsSlot, AreSlotsBehind, IsDeferred}
use Rattle.fkv_plane.proofs.Shown.{never}

pub truth : (b : Bool) → (b ≡ true) ⊎ (b ≡ false)
truth true = inl refl
truth false = inr refl

abbrev pub defer_at : Raising → Arming → Deferring → DeferState
defer_at raising arming step = record { raising = raising; arming = arming; step = step }

-- a slot is sought behind an epoch below its last, and those below were not free
abbrev pub IsSeekStep : Raising → List Exchange → Type 0
IsSeekStep raise.LoadsEpoch told = ⊤
IsSeekStep (raise.MeetsSlot slot) told = WereTaken slot told × WasEpochBelow told
IsSeekStep (raise.HoldsSlot slot) told = WereTaken slot told × WasEpochBelow told
IsSeekStep step told = ⊥

pub record IsSeeking (d : DeferState) (told : List Exchange) : Type 0 where
  pub raising : Raising
  pub arming : Arming
  pub its : d ≡ defer_at raising arming defer.Seeks
  pub at : IsSeekStep raising told

-- this one is held
pub record IsHolding (slot : ℕ) (d : DeferState) : Type 0 where
  pub arming : Arming
  pub its : d ≡ defer_at (raise.HasSlot slot) arming defer.Holds

pub data SeekOutcome (d : DeferState) (told : List Exchange) : Type 0 where
  SeeksOn : is_done (defer_ask d) ≡ false → IsSeeking d told → AreIdle told → SeekOutcome d told
  HasHeld : (slot : ℕ) → defer_ask d ≡ Done Held → IsHolding slot d → HoldsSlot slot told → SeekOutcome d told
  HasNone : defer_ask d ≡ Done NoSlot → WereTaken drain_slots told → AreIdle told → SeekOutcome d told
  IsSpent : defer_ask d ≡ Done Spent → WasEpochLast told → AreIdle told → SeekOutcome d told

-- what was not free was told so, whatever is told next
told_taken : (slot : ℕ) (told : List Exchange) (x : Exchange) → WasTaken slot told → WasTaken slot (x ∷ told)
told_taken slot told x (word, isnt, inl loaded) = (word, isnt, inl (inr loaded))
told_taken slot told x (word, isnt, inr lost) = (word, isnt, inr (inr lost))

still_taken : (slots : ℕ) (told : List Exchange) (x : Exchange) → WereTaken slots told → WereTaken slots (x ∷ told)
still_taken slots told x taken = λ slot below. told_taken slot told x (taken slot below)

one_more_taken : (slot : ℕ) (told : List Exchange) (x : Exchange) → WereTaken slot told → WasTaken slot (x ∷ told) → WereTaken (slot + 1) (x ∷ told)
one_more_taken slot told x taken this = λ i below. elim (truth (nat_lt i slot)) [
  | inl e ↦ let less : i < slot = grind (arith, nat_tests, e) in told_taken i told x (taken i less)
  | inr e ↦ let over : slot ≤ i = grind (arith, nat_tests, e) in
      let same : slot ≡ i = omega (arith, over, below) in
      subst (λ n. WasTaken n (x ∷ told)) same this
]

all_taken : (slots : ℕ) (told : List Exchange) → nat_lt slots drain_slots ≡ false → WereTaken slots told → WereTaken drain_slots told
all_taken slots told past taken = λ slot below. let over : drain_slots ≤ slots = grind (arith, nat_tests, past) in taken slot (omega (arith, over, below))

still_below : (told : List Exchange) (x : Exchange) → WasEpochBelow told → WasEpochBelow (x ∷ told)
still_below told x (epoch, low, loaded) = (epoch, low, inr loaded)

seek_step_at : (raising : Raising) (arming : Arming) (told : List Exchange) (reply : ℕ) → IsSeekStep raising told → AreIdle told
    → SeekOutcome (defer_next (defer_at raising arming defer.Seeks) reply) (exchanged (defer_ask (defer_at raising arming defer.Seeks)) reply told)
unfolding deferring_next deferring_ask seek_ledto raise_next raise_next_ask raise_ask free_after exchanged passed
seek_step_at raise.AtRest arming told reply at idle = absurd at
seek_step_at raise.LoadsEpoch arming told reply at idle = elim (truth (nat_le last_epoch reply)) [
  | inl e ↦ let last : last_epoch ≤ reply = grind (arith, nat_tests, e) in rw e (IsSpent refl (reply, last, inl refl) (tt, idle))
  | inr e ↦ let low : reply < last_epoch = grind (arith, nat_tests, e) in
      rw e (SeeksOn refl (record { raising = raise.MeetsSlot 0; arming = arming; its = refl; at = (λ i below. let no : ⊥ = omega (arith, below) in absurd no, (reply, low, inl refl)) }) (tt, idle))
]
seek_step_at (raise.MeetsSlot slot) arming told reply at idle = elim (truth (reply == 0)) [
  | inl e ↦ rw e (SeeksOn refl (record { raising = raise.HoldsSlot slot; arming = arming; its = refl; at = (still_taken slot told (exchange (Load (drain_place slot)) reply) at.0, still_below told (exchange (Load (drain_place slot)) reply) at.1) }) (tt, idle))
  | inr e ↦ let isnt : reply ≢ 0 = (λ z. never (rw z at e)) in
      let more_taken : WereTaken (slot + 1) (exchange (Load (drain_place slot)) reply ∷ told) = one_more_taken slot told (exchange (Load (drain_place slot)) reply) at.0 (reply, isnt, inl (inl refl)) in
      rw e (elim (truth (nat_lt (slot + 1) drain_slots)) [
        | inl more ↦ rw more (SeeksOn refl (record { raising = raise.MeetsSlot (slot + 1); arming = arming; its = refl; at = (more_taken, still_below told (exchange (Load (drain_place slot)) reply) at.1) }) (tt, idle))
        | inr more ↦ rw more (HasNone refl (all_taken (slot + 1) (exchange (Load (drain_place slot)) reply ∷ told) more more_taken) (tt, idle))
      ])
]
seek_step_at (raise.HoldsSlot slot) arming told reply at idle = elim (truth (reply == 0)) [
  | inl e ↦ let won : reply ≡ 0 = grind (arith, nat_tests, e) in
      rw (e, won) (HasHeld slot refl (record { arming = arming; its = refl }) (record { before = told; idle = idle; its = refl }))
  | inr e ↦ let lost : reply ≢ 0 = (λ z. never (rw z at e)) in
      let more_taken : WereTaken (slot + 1) (exchange (Cas (drain_place slot) 0 1) reply ∷ told) = one_more_taken slot told (exchange (Cas (drain_place slot) 0 1) reply) at.0 (reply, lost, inr (inl refl)) in
      rw e (elim (truth (nat_lt (slot + 1) drain_slots)) [
        | inl more ↦ rw more (SeeksOn refl (record { raising = raise.MeetsSlot (slot + 1); arming = arming; its = refl; at = (more_taken, still_below told (exchange (Cas (drain_place slot) 0 1) reply) at.1) }) (lost, idle))
        | inr more ↦ rw more (HasNone refl (all_taken (slot + 1) (exchange (Cas (drain_place slot) 0 1) reply ∷ told) more more_taken) (lost, idle))
      ])
]
seek_step_at (raise.HasSlot slot) arming told reply at idle = absurd at
seek_step_at (raise.RaisesEpoch slot) arming told reply at idle = absurd at

-- one reply as a slot is sought
pub seek_step : (d : DeferState) (told : List Exchange) (reply : ℕ) → IsSeeking d told → AreIdle told → SeekOutcome (defer_next d reply) (exchanged (defer_ask d) reply told)
seek_step d told reply its idle = rw its.its (seek_step_at its.raising its.arming told reply its.at idle)

pub begins_seeking : (d : DeferState) (told : List Exchange) → IsSeeking (defer_begun d) told
begins_seeking d told = record { raising = raise.LoadsEpoch; arming = d.arming; its = refl; at = tt }

-- how far it has come as this is deferred: the epoch is about to be raised, or the action to be put, or the slot to be armed
pub data IsDeferring (its : Deferred) (slot : ℕ) (before : List Exchange) (d : DeferState) (told : List Exchange) : Type 0 where
  Raises : (arming : Arming) → d ≡ defer_at (raise.RaisesEpoch slot) arming (defer.Raises its) → told ≡ before → IsDeferring its slot before d told
  Puts : (raising : Raising) (raised : ℕ) → d ≡ defer_at raising (arm.PutsAction slot (armed_epoch raised)) (defer.Puts its slot (armed_epoch raised))
      → told ≡ exchange (Add (shared_place one.Epoch) 1) raised ∷ before → IsDeferring its slot before d told
  Arms : (raising : Raising) (raised put : ℕ) → d ≡ defer_at raising (arm.StoresEpoch slot (armed_epoch raised)) (defer.Arms (armed_epoch raised))
      → told ≡ exchange (Put slot (action_of its)) put ∷ exchange (Add (shared_place one.Epoch) 1) raised ∷ before → IsDeferring its slot before d told

pub data DeferOutcome (its : Deferred) (slot : ℕ) (before : List Exchange) (d : DeferState) (told : List Exchange) : Type 0 where
  DefersOn : is_done (defer_ask d) ≡ false → IsDeferring its slot before d told → DeferOutcome its slot before d told
  HasArmed : (epoch : ℕ) → defer_ask d ≡ Done (Armed epoch) → IsDeferred slot epoch (action_of its) before told → DeferOutcome its slot before d told

-- one reply as this is deferred
pub defer_step : (its : Deferred) (slot : ℕ) (before : List Exchange) (d : DeferState) (told : List Exchange) (reply : ℕ) → IsDeferring its slot before d told
    → DeferOutcome its slot before (defer_next d reply) (exchanged (defer_ask d) reply told)
unfolding deferring_next deferring_ask raise_ledto arm_ledto raise_next raise_next_ask raise_ask arm_ask arm_next exchanged passed
defer_step its slot before d told reply (Raises arming at is) = rw (at, is) (DefersOn refl (Puts raise.AtRest reply refl refl))
defer_step its slot before d told reply (Puts raising raised at is) = rw (at, is) (DefersOn refl (Arms raising raised reply refl refl))
defer_step its slot before d told reply (Arms raising raised put at is) =
    rw (at, is) (HasArmed (armed_epoch raised) refl (record { raised = raised; at_it = refl; put_reply = put; arm_reply = reply; its = refl }))

-- once a slot is held
pub goes_on_deferring : (its : Deferred) (slot : ℕ) (told : List Exchange) (d : DeferState) → IsHolding slot d → IsDeferring its slot told (defer_on d its) told
unfolding deferring_on raise_on
goes_on_deferring its slot told d holding = rw holding.its (Raises holding.arming refl refl)

-- the words of no slot
pub none_met : (place : ℕ) (told : List Exchange) → (place < 16) ⊎ (24 ≤ place) → MeetsSlot (Load place) → WasEpochBelow told
none_met place told (inl low) (slot, few, is) = let no : ⊥ = omega (arith, low, few, is) in absurd no
none_met place told (inr high) (slot, few, is) = let no : ⊥ = omega (arith, high, few, is) in absurd no

-- as a slot is sought the epoch is loaded before
seek_behind_at : (raising : Raising) (arming : Arming) (told : List Exchange) (reply : ℕ) → IsSeekStep raising told → AreSlotsBehind told → AreSlotsBehind (exchanged (defer_ask (defer_at raising arming defer.Seeks)) reply told)
unfolding deferring_ask raise_ask exchanged passed
seek_behind_at raise.AtRest arming told reply at behind = absurd at
seek_behind_at raise.LoadsEpoch arming told reply at behind = (none_met 0 told (inl (omega arith)), behind)
seek_behind_at (raise.MeetsSlot slot) arming told reply at behind = (λ met. at.1, behind)
seek_behind_at (raise.HoldsSlot slot) arming told reply at behind = (λ met. at.1, behind)
seek_behind_at (raise.HasSlot slot) arming told reply at behind = absurd at
seek_behind_at (raise.RaisesEpoch slot) arming told reply at behind = absurd at

pub seek_behind : (d : DeferState) (told : List Exchange) (reply : ℕ) → IsSeeking d told → AreSlotsBehind told → AreSlotsBehind (exchanged (defer_ask d) reply told)
seek_behind d told reply its behind = rw its.its (seek_behind_at its.raising its.arming told reply its.at behind)

-- and no other slot is met as this is deferred
pub defer_behind : (its : Deferred) (slot : ℕ) (before : List Exchange) (d : DeferState) (told : List Exchange) (reply : ℕ) → IsDeferring its slot before d told → AreSlotsBehind told
    → AreSlotsBehind (exchanged (defer_ask d) reply told)
unfolding deferring_ask raise_ask arm_ask exchanged passed
defer_behind its slot before d told reply (Raises arming at is) behind = rw at (λ met. absurd met, behind)
defer_behind its slot before d told reply (Puts raising raised at is) behind = rw at (λ met. absurd met, behind)
defer_behind its slot before d told reply (Arms raising raised put at is) behind = rw at (λ met. absurd met, behind)
