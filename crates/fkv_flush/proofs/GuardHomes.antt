-- The action in a slot that one actor is about to arm is touched by no other actor.
use Rattle.std.proofs.Common.{◌≡◌, ◌≢◌, ℕ, ◌+◌, ◌-◌, ◌≤◌, ◌<◌, List, refl, arith, sym, ap, ◌∙◌, Bool, true, false}
use Rattle.fkv_base.specs.Limits.{drain_slots}
use Rattle.std.specs.Prelude.{Option, Some, None, slice_get, ◌==◌, if◌then◌else◌, nat_lt, nat_le}
use Rattle.std.proofs.lemmas.Bool.Decides.{nat_tests}
use Rattle.fkv_plane.specs.declared.actions.Action.{Action}
use Rattle.fkv_plane.specs.Plane.{action_at, found_action}
use Rattle.fkv_plane.specs.Asked.{words_after, reply_to}
use Rattle.fkv_epoch.specs.declared.claiming.Claiming.{Claiming}
use Rattle.fkv_epoch.specs.declared.claiming.Claiming.TheVariants as claim
use Rattle.fkv_epoch.specs.declared.arming.Arming.TheVariants as arm
use Rattle.fkv_epoch.specs.declared.raising.Raising.{Raising}
use Rattle.fkv_epoch.specs.declared.raising.Raising.TheVariants as raise
use Rattle.fkv_epoch.specs.Claiming.{claim_ask, claim_next, slot_after, slot_armed}
use Rattle.fkv_epoch.specs.Raising.{raise_ask}
use Rattle.fkv_epoch.specs.Arming.{arm_next}
use Rattle.fkv_epoch.specs.EpochWorld.{EpochMachine, Claims, Raises, Arms, EpochWorld, machine_step, claimed, received, raised, drain_word}
use Rattle.fkv_epoch.proofs.Shown.{item_spared, none_some, IsSound}

received_spares : (words : List ℕ) (actions : List (Option Action)) (other epoch safe slot : ℕ) (found : Option Action) → slot ≢ other → action_at (received words actions other epoch safe found).actions slot ≡ action_at actions slot
received_spares words actions other epoch safe slot None n = refl
received_spares words actions other epoch safe slot (Some x) n = ap found_action (item_spared actions other slot None n)

way : (P : Claiming → Type 0) (b : Bool) (x y : Claiming) → (b ≡ true → P x) → (b ≡ false → P y) → P (if b then x else y)
way P true x y p q = p refl
way P false x y p q = q refl

-- the actions after a claim has gone on to this state
abbrev Keeps : List ℕ → List (Option Action) → ℕ → Claiming → Type 0
Keeps words actions slot step = action_at (claimed words actions step).actions slot ≡ action_at actions slot

after_leaves : (words : List ℕ) (actions : List (Option Action)) (slot other : ℕ) (safe : Option ℕ) → Keeps words actions slot (slot_after other safe)
unfolding slot_after
after_leaves words actions slot other safe = way (Keeps words actions slot) (nat_lt (other + 1) drain_slots) (claim.MeetsSlot (other + 1) safe) claim.AtRest (λ e. refl) (λ e. refl)

armed_leaves : (words : List ℕ) (actions : List (Option Action)) (slot other word safe : ℕ) → Keeps words actions slot (slot_armed other word safe)
unfolding slot_armed
armed_leaves words actions slot other word safe = way (Keeps words actions slot) (nat_le (word - 2) safe) (claim.TakesSlot other word safe) (slot_after other (Some safe)) (λ e. refl) (λ e. after_leaves words actions slot other (Some safe))

-- a slot that is armed has no owner, and one that an actor is about to arm is its own
apart : (w : EpochWorld) (b slot c other word : ℕ) → IsSound w → slice_get w.now.actors b ≡ Some (Arms (arm.StoresEpoch slot c)) → other < drain_slots → 2 ≤ word → drain_word w.now.words other ≡ word → slot ≢ other
apart w b slot c other word sound its few some found same =
    let owned : sound.owners slot ≡ Some b = (sound.slots.holds b (Arms (arm.StoresEpoch slot c)) its).1 in
    let free : sound.owners other ≡ None = sound.slots.unowned other few (λ e. omega (arith, e, found, some)) in
    none_some {Y = ⊥} b (sym free ∙ (sym (ap sound.owners same) ∙ owned))

claim_spares : (w : EpochWorld) (a b : ℕ) (step : Claiming) (slot c : ℕ) → IsSound w → slice_get w.now.actors a ≡ Some (Claims step) → slice_get w.now.actors b ≡ Some (Arms (arm.StoresEpoch slot c))
    → Keeps (words_after w.now.words (claim_ask step)) w.now.actions slot (claim_next step (reply_to w.now.words (claim_ask step)))
unfolding claim_ask claim_next
claim_spares w a b claim.AtRest slot c sound got its = refl
claim_spares w a b (claim.MeetsSlot other None) slot c sound got its =
    way (Keeps _ w.now.actions slot) (nat_lt (drain_word w.now.words other) 2) (slot_after other None) (claim.LoadsSafe other (drain_word w.now.words other)) (λ e. after_leaves _ w.now.actions slot other None) (λ e. refl)
claim_spares w a b (claim.MeetsSlot other (Some safe)) slot c sound got its =
    way (Keeps _ w.now.actions slot) (nat_lt (drain_word w.now.words other) 2) (slot_after other (Some safe)) (slot_armed other (drain_word w.now.words other) safe) (λ e. after_leaves _ w.now.actions slot other (Some safe)) (λ e. armed_leaves _ w.now.actions slot other (drain_word w.now.words other) safe)
claim_spares w a b (claim.LoadsSafe other word) slot c sound got its = armed_leaves _ w.now.actions slot other word _
claim_spares w a b (claim.TakesSlot other word safe) slot c sound got its =
    let h = sound.slots.holds a (Claims (claim.TakesSlot other word safe)) got in
    way (Keeps _ w.now.actions slot) (drain_word w.now.words other == word) (claim.Receives other (word - 2) safe) (slot_after other (Some safe))
    (λ e. received_spares _ w.now.actions other (word - 2) safe slot (action_at w.now.actions other) (apart w b slot c other word sound its h.0 h.2 (grind (arith, nat_tests, e))))
    (λ e. after_leaves _ w.now.actions slot other (Some safe))
claim_spares w a b (claim.Receives other epoch safe) slot c sound got its = absurd (sound.slots.holds a (Claims (claim.Receives other epoch safe)) got)
claim_spares w a b (claim.Runs other epoch safe action) slot c sound got its = refl
claim_spares w a b (claim.FreesSlot other safe) slot c sound got its = after_leaves _ w.now.actions slot other (Some safe)

pub homes_spared : (w : EpochWorld) (a b : ℕ) (d : EpochMachine) (slot c : ℕ) → IsSound w → slice_get w.now.actors a ≡ Some d → slice_get w.now.actors b ≡ Some (Arms (arm.StoresEpoch slot c))
    → action_at (machine_step w.now.sessions a w.now.words w.now.actions d).actions slot ≡ action_at w.now.actions slot
homes_spared w a b (Claims step) slot c sound got its = claim_spares w a b step slot c sound got its
homes_spared w a b d slot c sound got its = refl

-- no step of a machine leads to where a slot is about to be armed, but that of raising the epoch with its action
is_arming : EpochMachine → Bool
is_arming (Arms (arm.StoresEpoch slot c)) = true
is_arming d = false

claimed_arms_none : (words : List ℕ) (actions : List (Option Action)) (step : Claiming) → is_arming (claimed words actions step).machine ≡ false
unfolding is_arming
claimed_arms_none words actions (claim.Receives slot epoch safe) = found (action_at actions slot)
  where
    found : (x : Option Action) → is_arming (received words actions slot epoch safe x).machine ≡ false
    found None = refl
    found (Some x) = refl
claimed_arms_none words actions step = refl

raised_arms_none : (step : Raising) (reply : ℕ) → is_arming (raised step reply) ≡ false
unfolding is_arming
raised_arms_none (raise.RaisesEpoch slot) reply = refl
raised_arms_none step reply = refl

stepped_arms_none : (w : EpochWorld) (a : ℕ) (d : EpochMachine) → IsSound w → slice_get w.now.actors a ≡ Some d → is_arming (machine_step w.now.sessions a w.now.words w.now.actions d).machine ≡ false
unfolding is_arming arm_next
stepped_arms_none w a (Claims step) sound got = claimed_arms_none _ w.now.actions (claim_next step (reply_to w.now.words (claim_ask step)))
stepped_arms_none w a (Raises step) sound got = raised_arms_none step (reply_to w.now.words (raise_ask step))
stepped_arms_none w a (Arms (arm.PutsAction slot c)) sound got = absurd (sound.slots.holds a (Arms (arm.PutsAction slot c)) got)
stepped_arms_none w a (Arms arm.AtRest) sound got = refl
stepped_arms_none w a (Arms (arm.StoresEpoch slot c)) sound got = refl
stepped_arms_none w a d sound got = refl

not_both : (b : Bool) {X : Type 0} → b ≡ false → b ≡ true → X
not_both b f t = cc

pub arms_none : (w : EpochWorld) (a slot c : ℕ) (d : EpochMachine) {X : Type 0} → IsSound w → slice_get w.now.actors a ≡ Some d → (machine_step w.now.sessions a w.now.words w.now.actions d).machine ≡ Arms (arm.StoresEpoch slot c) → X
unfolding is_arming
arms_none w a slot c d {X} sound got e = not_both (is_arming (machine_step w.now.sessions a w.now.words w.now.actions d).machine) (stepped_arms_none w a d sound got) (ap is_arming e)
