-- What a raise of the epoch has met as it seeks a drain slot, and a deferral with it.
use Rattle.std.proofs.Common.{◌≡◌, ◌≢◌, ℕ, ◌+◌, ◌<◌, ◌≤◌, suc, ap, refl, sym, subst, inl, inr, ◌⊎◌, arith, List, Bool, true, false}
use Rattle.std.specs.Prelude.{⊤, [], ◌∷◌, ◌==◌, nat_lt, nat_le}
use Rattle.std.proofs.lemmas.Bool.Decides.{nat_tests}
use Rattle.fkv_base.specs.Limits.{drain_slots, last_epoch}
use Rattle.fkv_plane.specs.declared.asks.Ask.{Ask}
use Rattle.fkv_plane.specs.declared.asks.Ask.TheVariants.{Load, Store, Swap, Cas, Add, Max, Put, Take, Done}
use Rattle.fkv_plane.specs.declared.places.SharedWord.TheVariants as one
use Rattle.fkv_plane.specs.Places.{shared_place, drain_place}
use Rattle.fkv_plane.specs.Passing.{passed, is_done}
use Rattle.fkv_epoch.specs.declared.raising.RaiseAnswer.{RaiseAnswer}
use Rattle.fkv_epoch.specs.declared.raising.RaiseAnswer.TheVariants as answer
use Rattle.fkv_epoch.specs.declared.raising.Raising.{Raising}
use Rattle.fkv_epoch.specs.declared.raising.Raising.TheVariants as raise
use Rattle.fkv_epoch.specs.Raising.{raise_ask, raise_next, raise_next_ask, free_after}
use Rattle.fkv_commit.specs.declared.deferring.DeferAnswer.TheVariants.{Held, NoSlot, Spent}
use Rattle.fkv_commit.specs.declared.deferring.Deferring.{Deferring}
use Rattle.fkv_commit.specs.declared.deferring.Deferring.TheVariants as defer
use Rattle.fkv_commit.specs.Deferring.{DeferState, defer_begun, defer_ask, deferring_ask, defer_next, deferring_next, seek_ledto}
use Rattle.fkv_commit.specs.Exchanges.{Exchange, exchange, exchanged}
use Rattle.fkv_keeper.specs.DrainLaws.{WerePassed, WereSought, HasSoughtAll}
use Rattle.fkv_plane.proofs.Shown.{never}

truth : (b : Bool) → (b ≡ true) ⊎ (b ≡ false)
truth true = inl refl
truth false = inr refl

-- what is passed on is the same exchange
pub passed_told : {A B : Type 0} (ask : Ask A) (other : B) (reply : ℕ) (told : List Exchange) → exchanged (passed ask other) reply told ≡ exchanged ask reply told
unfolding passed exchanged
passed_told (Load place) other reply told = refl
passed_told (Store place new) other reply told = refl
passed_told (Swap place new) other reply told = refl
passed_told (Cas place old new) other reply told = refl
passed_told (Add place k) other reply told = refl
passed_told (Max place k) other reply told = refl
passed_told (Put slot action) other reply told = refl
passed_told (Take slot) other reply told = refl
passed_told (Done its) other reply told = refl

-- what was sought stays so, whatever is told next
pub still_sought : {A : Type 0} (ask : Ask A) (reply : ℕ) (told : List Exchange) → HasSoughtAll told → HasSoughtAll (exchanged ask reply told)
unfolding exchanged
still_sought (Done its) reply told h = h
still_sought ask reply told h = record { then = h.then; sought = h.sought; since = exchange (passed ask tt) reply ∷ h.since; its = ap (λ (x : List Exchange). exchange (passed ask tt) reply ∷ x) h.its }

pub now_sought : (told : List Exchange) → WereSought drain_slots told → HasSoughtAll told
now_sought told h = record { then = told; sought = h; since = []; its = refl }

-- how far a slot is sought
abbrev pub IsSought : Raising → List Exchange → Type 0
IsSought raise.LoadsEpoch told = ⊤
IsSought (raise.MeetsSlot slot) told = (slot < drain_slots) × WereSought slot told
IsSought (raise.HoldsSlot slot) told = (slot < drain_slots) × ((before : List Exchange) × WereSought slot before × (told ≡ exchange (Load (drain_place slot)) 0 ∷ before))
IsSought step told = ⊥

pub data RaiseOutcome (next : Raising) (ask : Ask RaiseAnswer) (told : List Exchange) : Type 0 where
  GoesOn : is_done ask ≡ false → IsSought next told → RaiseOutcome next ask told
  GetsSlot : (slot : ℕ) → ask ≡ Done (answer.HasSlot slot) → next ≡ raise.HasSlot slot → RaiseOutcome next ask told
  GetsNone : ask ≡ Done answer.NoSlot → WereSought drain_slots told → RaiseOutcome next ask told
  IsLast : ask ≡ Done answer.Spent → RaiseOutcome next ask told

-- one slot more
one_more : (slot : ℕ) (before : List Exchange) (word : ℕ) → word ≢ 0 → WereSought slot before → WereSought (slot + 1) (exchange (Load (drain_place slot)) word ∷ before)
one_more slot before word isnt h =
    let next : suc slot ≡ slot + 1 = omega arith in
    record {
      before = h.before;
      epoch = h.epoch;
      below = h.below;
      passed = subst (λ (n : ℕ). WerePassed n (exchange (Load (shared_place one.Epoch)) h.epoch ∷ h.before) (exchange (Load (drain_place slot)) word ∷ before)) next (before, h.passed, (word, isnt, inl refl));
    }

one_lost : (slot : ℕ) (before : List Exchange) (word : ℕ) → word ≢ 0 → WereSought slot before → WereSought (slot + 1) (exchange (Cas (drain_place slot) 0 1) word ∷ exchange (Load (drain_place slot)) 0 ∷ before)
one_lost slot before word isnt h =
    let next : suc slot ≡ slot + 1 = omega arith in
    record {
      before = h.before;
      epoch = h.epoch;
      below = h.below;
      passed = subst (λ (n : ℕ). WerePassed n (exchange (Load (shared_place one.Epoch)) h.epoch ∷ h.before) (exchange (Cas (drain_place slot) 0 1) word ∷ exchange (Load (drain_place slot)) 0 ∷ before)) next
          (before, h.passed, (word, isnt, inr refl));
    }

-- behind the last one there is none
behind : (slot : ℕ) (told : List Exchange) → slot < drain_slots → WereSought (slot + 1) told → RaiseOutcome (free_after slot) (raise_ask (free_after slot)) told
unfolding free_after raise_ask
behind slot told low h = elim (truth (nat_lt (slot + 1) drain_slots)) [
  | inl more ↦ let next : slot + 1 < drain_slots = grind (arith, nat_tests, more) in rw more (GoesOn refl (next, h))
  | inr more ↦ let over : drain_slots ≤ slot + 1 = grind (arith, nat_tests, more) in
      let same : slot + 1 ≡ drain_slots = omega (arith, over, low) in
      rw more (GetsNone refl (subst (λ (x : ℕ). WereSought x told) same h))
]

pub raise_step : (r : Raising) (told : List Exchange) (reply : ℕ) → IsSought r told → RaiseOutcome (raise_next r reply) (raise_next_ask r reply) (exchanged (raise_ask r) reply told)
unfolding raise_next raise_next_ask raise_ask exchanged passed
raise_step raise.AtRest told reply at = absurd at
raise_step raise.LoadsEpoch told reply at = elim (truth (nat_le last_epoch reply)) [
  | inl e ↦ rw e (IsLast refl)
  | inr e ↦ let low : reply < last_epoch = grind (arith, nat_tests, e) in
      rw e (GoesOn refl (omega arith, record { before = told; epoch = reply; below = low; passed = refl }))
]
raise_step (raise.MeetsSlot slot) told reply at = elim (truth (reply == 0)) [
  | inl e ↦ let free : reply ≡ 0 = grind (arith, nat_tests, e) in rw (e, free) (GoesOn refl (at.0, (told, at.1, refl)))
  | inr e ↦ let isnt : reply ≢ 0 = (λ z. never (rw z at e)) in
      rw e (behind slot (exchange (Load (drain_place slot)) reply ∷ told) at.0 (one_more slot told reply isnt at.1))
]
raise_step (raise.HoldsSlot slot) told reply at = elim (truth (reply == 0)) [
  | inl e ↦ rw e (GetsSlot slot refl refl)
  | inr e ↦ let isnt : reply ≢ 0 = (λ z. never (rw z at e)) in
      rw e (subst (λ (x : List Exchange). RaiseOutcome (free_after slot) (raise_ask (free_after slot)) (exchange (Cas (drain_place slot) 0 1) reply ∷ x)) (sym at.1.2)
      (behind slot (exchange (Cas (drain_place slot) 0 1) reply ∷ exchange (Load (drain_place slot)) 0 ∷ at.1.0) at.0 (one_lost slot at.1.0 reply isnt at.1.1)))
]
raise_step (raise.HasSlot slot) told reply at = absurd at
raise_step (raise.RaisesEpoch slot) told reply at = absurd at

-- a deferral that seeks a slot
pub record IsDeferSought (d : DeferState) (told : List Exchange) : Type 0 where
  pub seeks : d.step ≡ defer.Seeks
  pub sought : IsSought d.raising told

pub data DeferOutcome (d : DeferState) (told : List Exchange) : Type 0 where
  SeeksOn : is_done (defer_ask d) ≡ false → IsDeferSought d told → DeferOutcome d told
  HasHeld : defer_ask d ≡ Done Held → DeferOutcome d told
  HasNone : defer_ask d ≡ Done NoSlot → WereSought drain_slots told → DeferOutcome d told
  IsSpent : defer_ask d ≡ Done Spent → DeferOutcome d told

-- the next ask of a raise that goes on is that of its next step
asks_on : (r : Raising) (told : List Exchange) → IsSought r told → is_done (raise_ask r) ≡ false
unfolding raise_ask
asks_on raise.AtRest told at = absurd at
asks_on raise.LoadsEpoch told at = refl
asks_on (raise.MeetsSlot slot) told at = refl
asks_on (raise.HoldsSlot slot) told at = refl
asks_on (raise.HasSlot slot) told at = absurd at
asks_on (raise.RaisesEpoch slot) told at = absurd at

passed_on : {A B : Type 0} (ask : Ask A) (other : B) → is_done ask ≡ false → is_done (passed ask other) ≡ false
unfolding passed
passed_on (Load place) other e = refl
passed_on (Store place new) other e = refl
passed_on (Swap place new) other e = refl
passed_on (Cas place old new) other e = refl
passed_on (Add place k) other e = refl
passed_on (Max place k) other e = refl
passed_on (Put slot action) other e = refl
passed_on (Take slot) other e = refl
passed_on (Done its) other e = cc

-- at its end a machine tells what was said
pub passed_alone : {A B : Type 0} (ask : Ask A) (x y : B) → passed ask x ≡ Done y → x ≡ y
unfolding passed
passed_alone (Load place) x y e = cc
passed_alone (Store place new) x y e = cc
passed_alone (Swap place new) x y e = cc
passed_alone (Cas place old new) x y e = cc
passed_alone (Add place k) x y e = cc
passed_alone (Max place k) x y e = cc
passed_alone (Put slot action) x y e = cc
passed_alone (Take slot) x y e = cc
passed_alone (Done its) x y e = cc

-- by what the raise asks next
led : (d : DeferState) (ask : Ask RaiseAnswer) (told : List Exchange) → d.step ≡ defer.Seeks → RaiseOutcome d.raising ask told → DeferOutcome (seek_ledto d ask) told
unfolding seek_ledto deferring_ask
led d (Done (answer.HasSlot slot)) told e its = HasHeld refl
led d (Done answer.Spent) told e its = IsSpent refl
led d (Done answer.NoSlot) told e (GoesOn on sought) = cc
led d (Done answer.NoSlot) told e (GetsSlot slot asks at) = cc
led d (Done answer.NoSlot) told e (GetsNone asks sought) = HasNone refl sought
led d (Done answer.NoSlot) told e (IsLast asks) = cc
led d (Done (answer.Raised slot epoch)) told e (GoesOn on sought) = cc
led d (Done (answer.Raised slot epoch)) told e (GetsSlot at asks so) = cc
led d (Done (answer.Raised slot epoch)) told e (GetsNone asks sought) = cc
led d (Done (answer.Raised slot epoch)) told e (IsLast asks) = cc
led d ask told e (GoesOn on sought) = SeeksOn (rw e (passed_on (raise_ask d.raising) NoSlot (asks_on d.raising told sought))) (record { seeks = e; sought = sought })
led d ask told e (GetsSlot slot asks at) = cc
led d ask told e (GetsNone asks sought) = cc
led d ask told e (IsLast asks) = cc

defer_at : (d : DeferState) (told : List Exchange) (reply : ℕ) → d.step ≡ defer.Seeks → IsSought d.raising told
    → DeferOutcome (deferring_next d defer.Seeks reply) (exchanged (deferring_ask d defer.Seeks) reply told)
unfolding deferring_next deferring_ask
defer_at d told reply e sought =
    subst (λ (x : List Exchange). DeferOutcome (seek_ledto (record d { raising = raise_next d.raising reply }) (raise_next_ask d.raising reply)) x) (sym (passed_told (raise_ask d.raising) NoSlot reply told))
    (led (record d { raising = raise_next d.raising reply }) (raise_next_ask d.raising reply) (exchanged (raise_ask d.raising) reply told) e (raise_step d.raising told reply sought))

-- one reply to a deferral that seeks a slot
pub defer_step : (d : DeferState) (told : List Exchange) (reply : ℕ) → IsDeferSought d told → DeferOutcome (defer_next d reply) (exchanged (defer_ask d) reply told)
defer_step d told reply its =
    subst (λ (x : Deferring). DeferOutcome (deferring_next d x reply) (exchanged (deferring_ask d x) reply told)) (sym its.seeks) (defer_at d told reply its.seeks its.sought)

pub defer_begins : (d : DeferState) (told : List Exchange) → IsDeferSought (defer_begun d) told
defer_begins d told = record { seeks = refl; sought = tt }
