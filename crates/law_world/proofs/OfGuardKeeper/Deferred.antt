-- A deferral inside a part of a commit.
use Rattle.std.proofs.Common.{◌≡◌, ℕ, ◌^◌, ◌<◌, List, [], ◌∷◌, inl, inr, refl, ap, sym, ◌∙◌, true, arith}
use Rattle.std.specs.Prelude.{Some, slice_get, slice_set, nat_lt, nat_le, ◌==◌, ◌+◌}
use Rattle.std.proofs.lemmas.Bool.Decides.{nat_tests}
use Rattle.fkv_base.specs.Limits.{drain_slots, last_epoch}
use Rattle.fkv_plane.specs.declared.actions.Action.{Action}
use Rattle.fkv_plane.specs.declared.actions.Action.TheVariants as act
use Rattle.fkv_plane.specs.declared.asks.Ask.{Ask}
use Rattle.fkv_plane.specs.declared.asks.Ask.TheVariants.{Put, Take, Done}
use Rattle.fkv_plane.specs.Asked.{reply_to, words_after}
use Rattle.fkv_plane.specs.Passing.{passed}
use Rattle.fkv_epoch.specs.declared.raising.RaiseAnswer.{RaiseAnswer}
use Rattle.fkv_epoch.specs.declared.raising.RaiseAnswer.TheVariants as raised
use Rattle.fkv_epoch.specs.declared.raising.Raising.{Raising}
use Rattle.fkv_epoch.specs.declared.raising.Raising.TheVariants as raise
use Rattle.fkv_epoch.specs.declared.arming.Arming.{Arming}
use Rattle.fkv_epoch.specs.declared.arming.Arming.TheVariants as arm
use Rattle.fkv_epoch.specs.Raising.{raise_ask, raise_next, raise_next_ask, free_after}
use Rattle.fkv_epoch.specs.Arming.{arm_ask, arm_next}
use Rattle.fkv_epoch.specs.EpochWorld.{Raises, Arms, is_at_rest}
use Rattle.fkv_epoch.proofs.Shown.{epoch_is_small}
use Rattle.fkv_commit.specs.declared.deferring.Deferred.{Deferred}
use Rattle.fkv_commit.specs.declared.deferring.DeferAnswer.{DeferAnswer}
use Rattle.fkv_commit.specs.declared.deferring.DeferAnswer.TheVariants.{Held}
use Rattle.fkv_commit.specs.declared.deferring.Deferring.{Deferring}
use Rattle.fkv_commit.specs.declared.deferring.Deferring.TheVariants as defer
use Rattle.fkv_commit.specs.Deferring.{DeferState, action_of, armed_epoch, defer_ask, defer_next, deferring_ask, deferring_next, seek_ledto}
use Rattle.fkv_flush.specs.GuardLevels.{Levels, levels_of}
use Rattle.fkv_flush.specs.GuardSeen.{IsStored}
use Rattle.fkv_flush.specs.GuardWorld.{Actor, GuardNow, GuardWorld, Moves, RaisesFor, near, put_near, is_idle, is_stored, epoch_world}
use Rattle.fkv_flush.proofs.Shown.{runs_now, raises_for, IsSound}
use Rattle.law_world.specs.GuardKeeper.CommitShown.{IsSeeking, IsHolding, IsDeferring, IsSlotSought, IsSlotHeld, IsActionDeferred, defer_machine}
use Rattle.law_world.proofs.OfGuardKeeper.Led.{one_ask}
use Rattle.law_world.proofs.OfGuardKeeper.Slots.{truth}

-- where a deferral that seeks a slot comes to, by what it asks next
abbrev pub SeekGoes : Ask DeferAnswer → DeferState → Type 0
SeekGoes (Done Held) d = IsSlotHeld d
SeekGoes (Done other) d = is_at_rest (Raises d.raising) ≡ true
SeekGoes (Put slot action) d = ⊥
SeekGoes (Take slot) d = ⊥
SeekGoes ask d = IsSlotSought d

abbrev deferral : Raising → Arming → Deferring → DeferState
deferral raising arming step = record { raising = raising; arming = arming; step = step }

sought_at : (step : Deferring) (raising : Raising) (arming : Arming) (reply : ℕ) → IsSeeking step raising
    → SeekGoes (defer_ask (defer_next (deferral raising arming step) reply)) (defer_next (deferral raising arming step) reply)
unfolding deferring_ask deferring_next seek_ledto raise_ask raise_next raise_next_ask free_after passed
sought_at defer.Seeks raise.LoadsEpoch arming reply k = elim (truth (nat_le last_epoch reply)) [ inl e ↦ rw e refl | inr e ↦ rw e tt ]
sought_at defer.Seeks (raise.MeetsSlot met) arming reply k = elim (truth (reply == 0)) [
  | inl e ↦ rw e tt
  | inr e ↦ elim (truth (nat_lt (met + 1) drain_slots)) [ inl f ↦ rw (e, f) tt | inr f ↦ rw (e, f) refl ]
]
sought_at defer.Seeks (raise.HoldsSlot met) arming reply k = elim (truth (reply == 0)) [
  | inl e ↦ rw e tt
  | inr e ↦ elim (truth (nat_lt (met + 1) drain_slots)) [ inl f ↦ rw (e, f) tt | inr f ↦ rw (e, f) refl ]
]
sought_at defer.Seeks raise.AtRest arming reply k = absurd k
sought_at defer.Seeks (raise.HasSlot slot) arming reply k = absurd k
sought_at defer.Seeks (raise.RaisesEpoch slot) arming reply k = absurd k
sought_at (defer.Ended its) raising arming reply k = absurd k
sought_at defer.Holds raising arming reply k = absurd k
sought_at (defer.Raises its) raising arming reply k = absurd k
sought_at (defer.Puts its slot epoch) raising arming reply k = absurd k
sought_at (defer.Arms epoch) raising arming reply k = absurd k

pub sought : (d : DeferState) (reply : ℕ) → IsSlotSought d → SeekGoes (defer_ask (defer_next d reply)) (defer_next d reply)
sought d reply k = sought_at d.step d.raising d.arming reply k

raising_kept : (d : DeferState) (ask : Ask RaiseAnswer) → (seek_ledto d ask).raising ≡ d.raising
unfolding seek_ledto
raising_kept d (Done (raised.HasSlot slot)) = refl
raising_kept d (Done raised.Spent) = refl
raising_kept d (Done other) = refl
raising_kept d ask = refl

abbrev sought_on : DeferState → ℕ → DeferState
sought_on d reply = record d { raising = raise_next d.raising reply }

sought_led_at : (n : GuardNow) (a : ℕ) (x : Actor) (step : Deferring) (raising : Raising) (arming : Arming) → slice_get n.actors a ≡ Some x → x.machine ≡ Raises raising → is_idle x.work ≡ true → IsSeeking step raising
    → (let d : DeferState = deferral raising arming step in
    runs_now n (Moves a ∷ []) ≡ put_near n a (near (words_after n.words (defer_ask d)) n.actions (record x { machine = Raises (defer_next d (reply_to n.words (defer_ask d))).raising })))
unfolding deferring_ask deferring_next raise_ask passed
sought_led_at n a x defer.Seeks raise.LoadsEpoch arming got its idle k =
    let d : DeferState = deferral raise.LoadsEpoch arming defer.Seeks in
    let reply : ℕ = reply_to n.words (raise_ask raise.LoadsEpoch) in
    one_ask n a x (Raises raise.LoadsEpoch) got its idle refl ∙ ap (λ (m : Raising). put_near n a (near (words_after n.words (raise_ask raise.LoadsEpoch)) n.actions (record x { machine = Raises m }))) (sym (raising_kept (sought_on d reply) (raise_next_ask d.raising reply)))
sought_led_at n a x defer.Seeks (raise.MeetsSlot met) arming got its idle k =
    let d : DeferState = deferral (raise.MeetsSlot met) arming defer.Seeks in
    let reply : ℕ = reply_to n.words (raise_ask (raise.MeetsSlot met)) in
    one_ask n a x (Raises (raise.MeetsSlot met)) got its idle refl ∙ ap (λ (m : Raising). put_near n a (near (words_after n.words (raise_ask (raise.MeetsSlot met))) n.actions (record x { machine = Raises m }))) (sym (raising_kept (sought_on d reply) (raise_next_ask d.raising reply)))
sought_led_at n a x defer.Seeks (raise.HoldsSlot met) arming got its idle k =
    let d : DeferState = deferral (raise.HoldsSlot met) arming defer.Seeks in
    let reply : ℕ = reply_to n.words (raise_ask (raise.HoldsSlot met)) in
    one_ask n a x (Raises (raise.HoldsSlot met)) got its idle refl ∙ ap (λ (m : Raising). put_near n a (near (words_after n.words (raise_ask (raise.HoldsSlot met))) n.actions (record x { machine = Raises m }))) (sym (raising_kept (sought_on d reply) (raise_next_ask d.raising reply)))
sought_led_at n a x defer.Seeks raise.AtRest arming got its idle k = absurd k
sought_led_at n a x defer.Seeks (raise.HasSlot slot) arming got its idle k = absurd k
sought_led_at n a x defer.Seeks (raise.RaisesEpoch slot) arming got its idle k = absurd k
sought_led_at n a x (defer.Ended other) raising arming got its idle k = absurd k
sought_led_at n a x defer.Holds raising arming got its idle k = absurd k
sought_led_at n a x (defer.Raises other) raising arming got its idle k = absurd k
sought_led_at n a x (defer.Puts other slot epoch) raising arming got its idle k = absurd k
sought_led_at n a x (defer.Arms epoch) raising arming got its idle k = absurd k

-- as it seeks a slot its ask is that of the machine of the epochs
pub sought_led : (n : GuardNow) (a : ℕ) (x : Actor) (d : DeferState) → slice_get n.actors a ≡ Some x → x.machine ≡ Raises d.raising → is_idle x.work ≡ true → IsSlotSought d
    → runs_now n (Moves a ∷ []) ≡ put_near n a (near (words_after n.words (defer_ask d)) n.actions (record x { machine = Raises (defer_next d (reply_to n.words (defer_ask d))).raising }))
sought_led n a x d got its idle k = sought_led_at n a x d.step d.raising d.arming got its idle k

pub sought_machine : (P : DeferState → Type 0) (step : Deferring) (raising : Raising) (arming : Arming) → IsSeeking step raising → ((next : Raising) → P (deferral next arming defer.Seeks)) → P (deferral raising arming step)
sought_machine P defer.Seeks raise.LoadsEpoch arming k f = f raise.LoadsEpoch
sought_machine P defer.Seeks (raise.MeetsSlot met) arming k f = f (raise.MeetsSlot met)
sought_machine P defer.Seeks (raise.HoldsSlot met) arming k f = f (raise.HoldsSlot met)
sought_machine P defer.Seeks raise.AtRest arming k f = absurd k
sought_machine P defer.Seeks (raise.HasSlot slot) arming k f = absurd k
sought_machine P defer.Seeks (raise.RaisesEpoch slot) arming k f = absurd k
sought_machine P (defer.Ended other) raising arming k f = absurd k
sought_machine P defer.Holds raising arming k f = absurd k
sought_machine P (defer.Raises other) raising arming k f = absurd k
sought_machine P (defer.Puts other slot epoch) raising arming k f = absurd k
sought_machine P (defer.Arms epoch) raising arming k f = absurd k

pub sought_shows : (d : DeferState) → IsSlotSought d → defer_machine d ≡ Some (Raises d.raising)
sought_shows d k = sought_machine (λ (e : DeferState). defer_machine e ≡ Some (Raises e.raising)) d.step d.raising d.arming k (λ next. refl)

held_at : (P : DeferState → Type 0) (step : Deferring) (raising : Raising) (arming : Arming) → IsHolding step raising → ((slot : ℕ) → P (deferral (raise.HasSlot slot) arming defer.Holds)) → P (deferral raising arming step)
held_at P defer.Holds (raise.HasSlot slot) arming k f = f slot
held_at P defer.Holds raise.AtRest arming k f = absurd k
held_at P defer.Holds raise.LoadsEpoch arming k f = absurd k
held_at P defer.Holds (raise.MeetsSlot met) arming k f = absurd k
held_at P defer.Holds (raise.HoldsSlot met) arming k f = absurd k
held_at P defer.Holds (raise.RaisesEpoch slot) arming k f = absurd k
held_at P defer.Seeks raising arming k f = absurd k
held_at P (defer.Ended other) raising arming k f = absurd k
held_at P (defer.Raises other) raising arming k f = absurd k
held_at P (defer.Puts other slot epoch) raising arming k f = absurd k
held_at P (defer.Arms epoch) raising arming k f = absurd k

-- what holds of a deferral that holds some slot
pub by_held : (P : DeferState → Type 0) (d : DeferState) → IsSlotHeld d → ((slot : ℕ) (arming : Arming) → P (record { raising = raise.HasSlot slot; arming = arming; step = defer.Holds })) → P d
by_held P d k f = held_at P d.step d.raising d.arming k (λ slot. f slot d.arming)

deferred_at : (P : DeferState → Type 0) (l : Levels) (step : Deferring) (raising : Raising) (arming : Arming) → IsDeferring l step raising arming
    → ((its : Deferred) (slot : ℕ) → IsStored l (action_of its) → P (deferral (raise.RaisesEpoch slot) arming (defer.Raises its)))
    → ((epoch slot c : ℕ) → P (deferral raising (arm.StoresEpoch slot c) (defer.Arms epoch))) → P (deferral raising arming step)
deferred_at P l (defer.Raises its) (raise.RaisesEpoch slot) arming k f g = f its slot k
deferred_at P l (defer.Raises its) raise.AtRest arming k f g = absurd k
deferred_at P l (defer.Raises its) raise.LoadsEpoch arming k f g = absurd k
deferred_at P l (defer.Raises its) (raise.MeetsSlot met) arming k f g = absurd k
deferred_at P l (defer.Raises its) (raise.HoldsSlot met) arming k f g = absurd k
deferred_at P l (defer.Raises its) (raise.HasSlot met) arming k f g = absurd k
deferred_at P l (defer.Arms epoch) raising (arm.StoresEpoch slot c) k f g = g epoch slot c
deferred_at P l (defer.Arms epoch) raising arm.AtRest k f g = absurd k
deferred_at P l (defer.Arms epoch) raising (arm.PutsAction slot c) k f g = absurd k
deferred_at P l defer.Seeks raising arming k f g = absurd k
deferred_at P l defer.Holds raising arming k f g = absurd k
deferred_at P l (defer.Ended other) raising arming k f g = absurd k
deferred_at P l (defer.Puts other slot epoch) raising arming k f g = absurd k

-- what holds of a deferral that raises the epoch, and of one that arms its slot
pub by_deferred : (P : DeferState → Type 0) (l : Levels) (d : DeferState) → IsActionDeferred l d
    → ((its : Deferred) (slot : ℕ) (arming : Arming) → IsStored l (action_of its) → P (record { raising = raise.RaisesEpoch slot; arming = arming; step = defer.Raises its }))
    → ((epoch slot c : ℕ) (raising : Raising) → P (record { raising = raising; arming = arm.StoresEpoch slot c; step = defer.Arms epoch })) → P d
by_deferred P l d k f g = deferred_at P l d.step d.raising d.arming k (λ its slot stored. f its slot d.arming stored) (λ epoch slot c. g epoch slot c d.raising)

stored_so : (words : List ℕ) (action : Action) → IsStored (levels_of words) action → is_stored words action ≡ true
stored_so words (act.SafeReadOnly addr) k = grind (arith, nat_tests, k)
stored_so words (act.Close addr) k = grind (arith, nat_tests, k)
stored_so words (act.Phase phase version) k = refl

-- the Add that raises the epoch, and the action that goes with it
pub raised_led : (w : GuardWorld) (a : ℕ) (x : Actor) (slot : ℕ) (action : Action) → IsSound w → slice_get w.now.actors a ≡ Some x → x.machine ≡ Raises (raise.RaisesEpoch slot) → is_idle x.work ≡ true
    → IsStored (levels_of w.now.words) action
    → (let n : GuardNow = w.now in
    runs_now n (RaisesFor a action ∷ []) ≡ put_near n a (near (words_after n.words (raise_ask (raise.RaisesEpoch slot))) (slice_set n.actions slot (Some action))
    (record x { machine = Arms (arm.StoresEpoch slot (armed_epoch (reply_to n.words (raise_ask (raise.RaisesEpoch slot))))) })))
unfolding raise_ask arm_next
raised_led w a x slot action sound got its idle stored =
    let n : GuardNow = w.now in
    let reply : ℕ = reply_to n.words (raise_ask (raise.RaisesEpoch slot)) in
    let small : reply < 2 ^ 49 = epoch_is_small (epoch_world w) sound.epochs in
    let same : reply ≡ armed_epoch reply = omega (arith, small) in
    raises_for n a x got action idle (stored_so n.words action stored) ∙ ap (put_near n a) (rw its refl)
    ∙ ap (λ (epoch : ℕ). put_near n a (near (words_after n.words (raise_ask (raise.RaisesEpoch slot))) (slice_set n.actions slot (Some action)) (record x { machine = Arms (arm.StoresEpoch slot epoch) }))) same

-- the store that arms the slot
pub armed_led : (n : GuardNow) (a : ℕ) (x : Actor) (slot c : ℕ) → slice_get n.actors a ≡ Some x → x.machine ≡ Arms (arm.StoresEpoch slot c) → is_idle x.work ≡ true
    → runs_now n (Moves a ∷ []) ≡ put_near n a (near (words_after n.words (arm_ask (arm.StoresEpoch slot c))) n.actions (record x { machine = Arms arm.AtRest }))
unfolding arm_next
armed_led n a x slot c got its idle = one_ask n a x (Arms (arm.StoresEpoch slot c)) got its idle refl
