-- Who holds a slot owns it, and so holds it alone; and the step of a machine that moves an action is the Cas that takes its slot.
use Rattle.std.proofs.Common.{◌≡◌, ◌≢◌, ℕ, ◌+◌, ◌-◌, ◌<◌, List, refl, arith, sym, ap, subst, inl, inr, ◌∙◌, Bool, true, false}
use Rattle.std.specs.Prelude.{Option, Some, None, ◌==◌, nat_lt, nat_le, if◌then◌else◌}
use Rattle.std.proofs.lemmas.Bool.Decides.{nat_tests}
use Rattle.fkv_base.specs.Limits.{drain_slots}
use Rattle.fkv_plane.specs.declared.actions.Action.{Action}
use Rattle.fkv_plane.specs.Asked.{reply_to, words_after}
use Rattle.fkv_plane.specs.Plane.{action_at, found_action}
use Rattle.fkv_epoch.specs.declared.claiming.Claiming.{Claiming}
use Rattle.fkv_epoch.specs.declared.claiming.Claiming.TheVariants as claim
use Rattle.fkv_epoch.specs.declared.raising.Raising.TheVariants as raise
use Rattle.fkv_epoch.specs.declared.arming.Arming.TheVariants as arm
use Rattle.fkv_epoch.specs.Claiming.{claim_ask, claim_next, claim_given, slot_after, slot_armed}
use Rattle.fkv_epoch.specs.EpochWorld.{EpochMachine, Protects, Refreshes, Leaves, Scans, Claims, Raises, HasRaised, Arms, EpochNear, EpochWorld, drain_word, machine_step, claimed, received}
use Rattle.fkv_epoch.specs.Held.{slot_held, AreHeldAlone}
use Rattle.fkv_epoch.proofs.Items.{item_spared, same_or, some_same, none_some}
use Rattle.fkv_epoch.proofs.Slots.{SlotTable, Holds}
use Rattle.fkv_epoch.proofs.Sound.{IsSound, slot_table}

-- the slot is one that there is, and the actor's own
abbrev IsOwned : SlotTable → ℕ → ℕ → Type 0
IsOwned k a slot = (slot < drain_slots) × (k.owners slot ≡ Some a)

same_owned : (k : SlotTable) (a its slot : ℕ) → ◌≡◌ {A = Option ℕ} (Some its) (Some slot) → IsOwned k a its → IsOwned k a slot
same_owned k a its slot e owned = subst (λ (s : ℕ). IsOwned k a s) (some_same its slot e) owned

holds_owned : (k : SlotTable) (a slot : ℕ) (d : EpochMachine) → slot_held d ≡ Some slot → Holds k a d → IsOwned k a slot
holds_owned k a slot (Raises (raise.HasSlot its)) e h = same_owned k a its slot e (h.0, h.1)
holds_owned k a slot (Raises (raise.RaisesEpoch its)) e h = same_owned k a its slot e (h.0, h.1)
holds_owned k a slot (HasRaised its epoch) e h = same_owned k a its slot e (h.0, h.1)
holds_owned k a slot (Arms (arm.StoresEpoch its epoch)) e h = same_owned k a its slot e (h.0, h.1)
holds_owned k a slot (Claims (claim.Runs its epoch z action)) e h = same_owned k a its slot e (h.0, h.2)
holds_owned k a slot (Claims (claim.FreesSlot its z)) e h = same_owned k a its slot e (h.0, h.2)
holds_owned k a slot d e h = none_some {Y = IsOwned k a slot} slot e

-- whoever holds a slot holds it alone
pub held_alone : (w : EpochWorld) → IsSound w → AreHeldAlone w.now
held_alone w sound a slot d got held =
    let k : SlotTable = slot_table w.now w.past sound.owners sound.fates in
    let mine : IsOwned k a slot = holds_owned k a slot d held (sound.slots.holds a d got) in
    let marked : drain_word w.now.words slot ≡ 1 = elim (same_or (drain_word w.now.words slot) 1) [
      | inl e ↦ e
      | inr n ↦ none_some {Y = drain_word w.now.words slot ≡ 1} a (sym (sound.slots.unowned slot mine.0 n) ∙ mine.1)
    ] in
    record {
      within = mine.0;
      marked = marked;
      alone = λ b other there its. some_same b a (sym (holds_owned k b slot other its (sound.slots.holds b other there)).1 ∙ mine.1);
      untaken = λ b word safe there found. let some = (sound.slots.holds b (Claims (claim.TakesSlot slot word safe)) there).2 in absurd (omega (arith, marked, found, some));
    }

-- The machine's Cas takes this slot, and so holds it then.
pub record TakesAction (words : List ℕ) (d after : EpochMachine) (slot : ℕ) : Type 0 where
  pub word : ℕ
  pub safe : ℕ
  pub its : d ≡ Claims (claim.TakesSlot slot word safe)
  pub found : drain_word words slot ≡ word
  pub held : slot_held after ≡ Some slot

-- the action of this slot is another
abbrev pub IsMoved : List (Option Action) → List (Option Action) → ℕ → Type 0
IsMoved actions there slot = action_at there slot ≢ action_at actions slot

-- what leads to a slot that is met, or is tried, or to the end, moves none
no_claim : (words : List ℕ) (actions : List (Option Action)) (slot k : ℕ) (z : Option ℕ) {X : Type 0} → IsMoved actions (claimed words actions (slot_after k z)).actions slot → X
unfolding slot_after
no_claim words actions slot k z {X} moves = by (nat_lt (k + 1) drain_slots) moves
  where
    by : (b : Bool) → IsMoved actions (claimed words actions (if b then claim.MeetsSlot (k + 1) z else claim.AtRest)).actions slot → X
    by true other = absurd (other refl)
    by false other = absurd (other refl)

no_try : (words : List ℕ) (actions : List (Option Action)) (slot k word z : ℕ) {X : Type 0} → IsMoved actions (claimed words actions (slot_armed k word z)).actions slot → X
unfolding slot_armed
no_try words actions slot k word z {X} moves = by (nat_le (word - 2) z) moves
  where
    by : (b : Bool) → IsMoved actions (claimed words actions (if b then claim.TakesSlot k word z else slot_after k (Some z))).actions slot → X
    by true other = absurd (other refl)
    by false other = no_claim words actions slot k (Some z) other

-- the Cas of a slot is won, and its action comes out
receives_takes : (words there : List ℕ) (actions : List (Option Action)) (slot k word z : ℕ) (found : Option Action) → drain_word words k ≡ word → IsMoved actions (received there actions k (word - 2) z found).actions slot
    → TakesAction words (Claims (claim.TakesSlot k word z)) (received there actions k (word - 2) z found).machine slot
unfolding claim_given
receives_takes words there actions slot k word z None won moves = absurd (moves refl)
receives_takes words there actions slot k word z (Some action) won moves = elim (same_or slot k) [
  | inl e ↦ rw e (record { word = word; safe = z; its = refl; found = won; held = refl })
  | inr n ↦ absurd (moves (ap found_action (item_spared actions k slot None n)))
]

claim_takes : (words : List ℕ) (actions : List (Option Action)) (slot : ℕ) (step : Claiming) → ((k c z : ℕ) → step ≡ claim.Receives k c z → ⊥)
    → (let there : EpochNear = claimed (words_after words (claim_ask step)) actions (claim_next step (reply_to words (claim_ask step))) in IsMoved actions there.actions slot → TakesAction words (Claims step) there.machine slot)
unfolding claim_ask claim_next
claim_takes words actions slot claim.AtRest waits moves = absurd (moves refl)
claim_takes words actions slot (claim.MeetsSlot k None) waits moves = by (nat_lt (drain_word words k) 2) moves
  where
    there : List ℕ
    there = words_after words (claim_ask (claim.MeetsSlot k None))

    by : (b : Bool) → (let its : EpochNear = claimed there actions (if b then slot_after k None else claim.LoadsSafe k (drain_word words k)) in IsMoved actions its.actions slot → TakesAction words (Claims (claim.MeetsSlot k None)) its.machine slot)
    by true other = no_claim there actions slot k None other
    by false other = absurd (other refl)
claim_takes words actions slot (claim.MeetsSlot k (Some z)) waits moves = by (nat_lt (drain_word words k) 2) moves
  where
    there : List ℕ
    there = words_after words (claim_ask (claim.MeetsSlot k (Some z)))

    by : (b : Bool) → (let its : EpochNear = claimed there actions (if b then slot_after k (Some z) else slot_armed k (drain_word words k) z) in IsMoved actions its.actions slot → TakesAction words (Claims (claim.MeetsSlot k (Some z))) its.machine slot)
    by true other = no_claim there actions slot k (Some z) other
    by false other = no_try there actions slot k (drain_word words k) z other
claim_takes words actions slot (claim.LoadsSafe k word) waits moves = no_try (words_after words (claim_ask (claim.LoadsSafe k word))) actions slot k word (reply_to words (claim_ask (claim.LoadsSafe k word))) moves
claim_takes words actions slot (claim.TakesSlot k word z) waits moves = by (drain_word words k == word) refl moves
  where
    there : List ℕ
    there = words_after words (claim_ask (claim.TakesSlot k word z))

    by : (b : Bool) → (drain_word words k == word) ≡ b
        → (let its : EpochNear = claimed there actions (if b then claim.Receives k (word - 2) z else slot_after k (Some z)) in IsMoved actions its.actions slot → TakesAction words (Claims (claim.TakesSlot k word z)) its.machine slot)
    by true e other = receives_takes words there actions slot k word z (action_at actions k) (grind (arith, nat_tests, e)) other
    by false e other = no_claim there actions slot k (Some z) other
claim_takes words actions slot (claim.Receives k c z) waits moves = absurd (waits k c z refl)
claim_takes words actions slot (claim.Runs k c z action) waits moves = absurd (moves refl)
claim_takes words actions slot (claim.FreesSlot k z) waits moves = no_claim (words_after words (claim_ask (claim.FreesSlot k z))) actions slot k (Some z) moves

-- of any machine
pub machine_takes : (sessions a : ℕ) (words : List ℕ) (actions : List (Option Action)) (d : EpochMachine) (slot : ℕ) → ((k c z : ℕ) → d ≡ Claims (claim.Receives k c z) → ⊥)
    → IsMoved actions (machine_step sessions a words actions d).actions slot → TakesAction words d (machine_step sessions a words actions d).machine slot
machine_takes sessions a words actions (Claims step) slot waits moves = claim_takes words actions slot step (λ k c z e. waits k c z (ap Claims e)) moves
machine_takes sessions a words actions (Protects step) slot waits moves = absurd (moves refl)
machine_takes sessions a words actions (Refreshes step) slot waits moves = absurd (moves refl)
machine_takes sessions a words actions (Leaves step) slot waits moves = absurd (moves refl)
machine_takes sessions a words actions (Scans step) slot waits moves = absurd (moves refl)
machine_takes sessions a words actions (Raises step) slot waits moves = absurd (moves refl)
machine_takes sessions a words actions (HasRaised k epoch) slot waits moves = absurd (moves refl)
machine_takes sessions a words actions (Arms step) slot waits moves = absurd (moves refl)
