-- Steps of the machines that raise the epoch and arm a slot.
use Rattle.std.proofs.Common.{◌≡◌, ℕ, ◌+◌, ◌^◌, ◌%◌, ◌<◌, ◌≤◌, ◌⊎◌, List, ◌∷◌, refl, arith, ap, inl, inr, ◌∙◌, Bool, true, false}
use Rattle.fkv_base.specs.Limits.{drain_slots, last_epoch}
use Rattle.std.specs.Prelude.{Option, Some, None, slice_get, slice_set, ◌==◌, nat_lt, nat_le, if◌then◌else◌}
use Rattle.std.proofs.lemmas.List.{set-get_or, length-set}
use Rattle.std.proofs.lemmas.Bool.Decides.{nat_tests}
use Rattle.fkv_plane.specs.declared.actions.Action.{Action}
use Rattle.fkv_plane.specs.Plane.{action_at}
use Rattle.fkv_plane.specs.Places.{session_place, drain_place}
use Rattle.fkv_plane.specs.declared.places.SessionWord.TheVariants as own
use Rattle.fkv_epoch.specs.declared.raising.Raising.{Raising}
use Rattle.fkv_epoch.specs.declared.raising.Raising.TheVariants.{AtRest, LoadsEpoch, MeetsSlot, HoldsSlot, HasSlot, RaisesEpoch}
use Rattle.fkv_epoch.specs.declared.arming.Arming.{Arming}
use Rattle.fkv_epoch.specs.declared.arming.Arming.TheVariants as arms
use Rattle.fkv_epoch.specs.Raising.{raise_ask, raise_next, free_after}
use Rattle.fkv_epoch.specs.Arming.{arm_ask, arm_next}
use Rattle.fkv_epoch.specs.EpochWorld.{EpochMachine, Raises, HasRaised, Arms, EpochWorld, Armed, epoch_of, safe_of, own_epoch, drain_word, loaded}
use Rattle.fkv_epoch.proofs.Items.{word_written, word_spared, set_at, set_here}
use Rattle.fkv_epoch.proofs.Slots.{Fate, Carried, Waits, stage, SlotTable, Holds, Slots}
use Rattle.fkv_epoch.proofs.SlotSteps.{hold, raise}
use Rattle.fkv_epoch.proofs.SlotRuns.{arm}
use Rattle.fkv_epoch.proofs.Sound.{IsSound, quiet, takes_none, slot_table, assembled, epochs_step, weight}
use Rattle.fkv_epoch.proofs.SessionSteps.{SoundAfter, machine_changed}
use Rattle.fkv_epoch.proofs.ClaimSteps.{low_written, low_epoch, low_safe, other_drain, not_among}

-- a test that leads one of two ways
way : (P : Raising → Type 0) (b : Bool) (x y : Raising) → (b ≡ true → P x) → (b ≡ false → P y) → P (if b then x else y)
way P true x y p q = p refl
way P false x y p q = q refl

-- the actor goes on to this state, and writes nothing
abbrev pub Leads : EpochWorld → ℕ → Raising → Type 0
Leads w a next = IsSound (record { now = record w.now { actors = slice_set w.now.actors a (Raises next) }; past = record w.past { loads = loaded w.past.loads a None (epoch_of w.now.words) } })

leads : (w : EpochWorld) (a : ℕ) (step next : Raising) → IsSound w → slice_get w.now.actors a ≡ Some (Raises step)
    → (weight (Raises next) ≤ weight (Raises step)) ⊎ (epoch_of w.now.words + 1 < 2 ^ 48)
    → ((owners : ℕ → Option ℕ) (fates : ℕ → Fate) → Slots (slot_table w.now w.past owners fates) w.now.actors → Holds (slot_table w.now w.past owners fates) a (Raises next))
    → Leads w a next
leads w a step next sound got lighter holds =
    quiet w a (Raises step) (Raises next) None sound got lighter (machine_changed w a (Raises step) (Raises next) sound got (λ s g. refl)) tt holds

leads_after : (w : EpochWorld) (a slot : ℕ) (step : Raising) → IsSound w → slice_get w.now.actors a ≡ Some (Raises step) → slot < drain_slots → weight (Raises step) ≡ 1 → Leads w a (free_after slot)
unfolding free_after
leads_after w a slot step sound got few heavy =
    way (λ s. Leads w a s) (nat_lt (slot + 1) drain_slots) (MeetsSlot (slot + 1)) AtRest
    (λ e. leads w a step (MeetsSlot (slot + 1)) sound got (inl (omega arith)) (λ o f s. grind (arith, nat_tests, e)))
    (λ e. leads w a step AtRest sound got (inl (omega arith)) (λ o f s. tt))

-- the Cas that holds a free slot is won
hold_moves : (w : EpochWorld) (a slot : ℕ) → IsSound w → slice_get w.now.actors a ≡ Some (Raises (HoldsSlot slot)) → drain_word w.now.words slot ≡ 0
    → IsSound (record { now = record w.now { words = slice_set w.now.words (drain_place slot) 1; actors = slice_set w.now.actors a (Raises (HasSlot slot)) }; past = record w.past { loads = loaded w.past.loads a None (epoch_of w.now.words) } })
hold_moves w a slot sound got found =
    let place : ℕ = drain_place slot in
    let words' : List ℕ = slice_set w.now.words place 1 in
    let k : SlotTable = slot_table w.now w.past sound.owners sound.fates in
    let d : EpochMachine = Raises (HoldsSlot slot) in
    let d' : EpochMachine = Raises (HasSlot slot) in
    let few : slot < drain_slots = sound.slots.holds a d got in
    let same_epoch = low_epoch w.now.words place 1 (omega arith) in
    let same_safe = low_safe w.now.words place 1 (omega arith) in
    let now_one : drain_word words' slot ≡ 1 = word_written w.now.words place 1 (omega (arith, few, sound.enough_words)) in
    assembled w a d d' None w.past.in_force words' w.now.actions w.past.armed w.past.claims w.past.runs (set_at sound.owners slot (Some a)) sound.fates sound got
    (length-set w.now.words place 1) sound.eight_slots (inl (omega arith))
    (low_written w a d d' place 1 sound got (omega arith) (omega (arith, few)) (λ s g. refl) tt)
    (hold k (epoch_of words') (safe_of words') (drain_word words') slot w.now.actors a d d' sound.slots got (omega arith) (omega arith) few found now_one
    (λ s f n. other_drain w.now.words slot 1 s n)
    (few, set_here sound.owners slot (Some a) slot refl, sound.slots.empty slot few found))
    sound.once

-- the epoch is raised
raise_moves_on : (w : EpochWorld) (a slot : ℕ) → IsSound w → slice_get w.now.actors a ≡ Some (Raises (RaisesEpoch slot))
    → IsSound (record { now = record w.now { words = slice_set w.now.words 0 ((epoch_of w.now.words + 1) % 2 ^ 64); actors = slice_set w.now.actors a (HasRaised slot (epoch_of w.now.words)) }; past = record w.past { loads = loaded w.past.loads a None (epoch_of w.now.words) } })
raise_moves_on w a slot sound got =
    let c : ℕ = epoch_of w.now.words in
    let word : ℕ = (c + 1) % 2 ^ 64 in
    let words' : List ℕ = slice_set w.now.words 0 word in
    let k : SlotTable = slot_table w.now w.past sound.owners sound.fates in
    let d : EpochMachine = Raises (RaisesEpoch slot) in
    let d' : EpochMachine = HasRaised slot c in
    let h = sound.slots.holds a d got in
    let small : c < 2 ^ 49 = omega (arith, sound.bounded, sound.few_actors) in
    let no_wrap : word ≡ c + 1 = omega (arith, small) in
    let now_epoch : epoch_of words' ≡ word = word_written w.now.words 0 word (omega (arith, sound.enough_words)) in
    let same_safe : safe_of words' ≡ safe_of w.now.words = word_spared w.now.words 0 word 1 (λ e. omega (arith, e)) in
    let same_own : (s : ℕ) → own_epoch words' s ≡ own_epoch w.now.words s = λ s. word_spared w.now.words 0 word (session_place s own.Epoch) (λ e. omega (arith, e)) in
    assembled w a d d' None w.past.in_force words' w.now.actions w.past.armed w.past.claims w.past.runs sound.owners (set_at sound.fates c (Carried a)) sound got
    (length-set w.now.words 0 word) sound.eight_slots (inl (omega (arith, now_epoch, no_wrap)))
    (epochs_step w.now.sessions c (epoch_of words') (safe_of w.now.words) (safe_of words') (own_epoch w.now.words) (own_epoch words') w.past.loads w.past.in_force w.past.in_force w.now.actors a d d' None
    sound.epochs got (omega (arith, now_epoch, no_wrap)) (omega (arith, same_safe, sound.epochs.safe_below)) (rw same_safe sound.epochs.above_safe)
    (λ s i n. same_own s) (takes_none w a None sound) (λ i. rw (same_own a) (machine_changed w a d d' sound got (λ s g. refl) i)) tt)
    (raise k (epoch_of words') (safe_of words') (drain_word words') w.now.actors a d d' sound.slots got (now_epoch ∙ no_wrap) (omega (arith, same_safe))
    (λ s f. word_spared w.now.words 0 word (drain_place s) (λ e. omega (arith, e)))
    (h.0, h.1, set_here sound.fates c (Carried a) c refl, h.2))
    sound.once

pub raise_moves : (w : EpochWorld) (a : ℕ) (step : Raising) → IsSound w → slice_get w.now.actors a ≡ Some (Raises step) → SoundAfter w a (Raises step)
unfolding raise_ask raise_next
raise_moves w a AtRest sound got = leads w a AtRest AtRest sound got (inl (omega arith)) (λ o f s. tt)
raise_moves w a LoadsEpoch sound got =
    rw (set-get_or w.now.words 0 0)
    (way (λ s. Leads w a s) (nat_le last_epoch (epoch_of w.now.words)) AtRest (MeetsSlot 0)
    (λ e. leads w a LoadsEpoch AtRest sound got (inl (omega arith)) (λ o f s. tt))
    (λ e. leads w a LoadsEpoch (MeetsSlot 0) sound got (inr (grind (arith, nat_tests, e))) (λ o f s. omega arith)))
raise_moves w a (MeetsSlot slot) sound got =
    let few = sound.slots.holds a (Raises (MeetsSlot slot)) got in
    rw (set-get_or w.now.words (drain_place slot) 0)
    (way (λ s. Leads w a s) (drain_word w.now.words slot == 0) (HoldsSlot slot) (free_after slot)
    (λ e. leads w a (MeetsSlot slot) (HoldsSlot slot) sound got (inl (omega arith)) (λ o f s. few))
    (λ e. leads_after w a slot (MeetsSlot slot) sound got few refl))
raise_moves w a (HoldsSlot slot) sound got = tried (drain_word w.now.words slot == 0) refl
  where
    tried : (b : Bool) → (drain_word w.now.words slot == 0) ≡ b → SoundAfter w a (Raises (HoldsSlot slot))
    tried true e = rw e (hold_moves w a slot sound got (grind (arith, nat_tests, e)))
    tried false e = rw e (rw (set-get_or w.now.words (drain_place slot) 0) (leads_after w a slot (HoldsSlot slot) sound got (sound.slots.holds a (Raises (HoldsSlot slot)) got) refl))
raise_moves w a (HasSlot slot) sound got =
    leads w a (HasSlot slot) (HasSlot slot) sound got (inl (omega arith)) (λ o f s. s.holds a (Raises (HasSlot slot)) got)
raise_moves w a (RaisesEpoch slot) sound got = raise_moves_on w a slot sound got

pub bear_moves : (w : EpochWorld) (a slot c : ℕ) → IsSound w → slice_get w.now.actors a ≡ Some (HasRaised slot c) → SoundAfter w a (HasRaised slot c)
bear_moves w a slot c sound got =
    quiet w a (HasRaised slot c) (HasRaised slot c) None sound got (inl (omega arith)) (machine_changed w a (HasRaised slot c) (HasRaised slot c) sound got (λ s g. refl)) tt (λ o f s. s.holds a (HasRaised slot c) got)

-- the store that arms a slot
pub arm_moves : (w : EpochWorld) (a : ℕ) (step : Arming) → IsSound w → slice_get w.now.actors a ≡ Some (Arms step) → SoundAfter w a (Arms step)
unfolding arm_ask arm_next
arm_moves w a arms.AtRest sound got =
    quiet w a (Arms arms.AtRest) (Arms arms.AtRest) None sound got (inl (omega arith)) (machine_changed w a (Arms arms.AtRest) (Arms arms.AtRest) sound got (λ s g. refl)) tt (λ o f s. tt)
arm_moves w a (arms.PutsAction slot c) sound got = absurd (sound.slots.holds a (Arms (arms.PutsAction slot c)) got)
arm_moves w a (arms.StoresEpoch slot c) sound got =
    let place : ℕ = drain_place slot in
    let words' : List ℕ = slice_set w.now.words place (c + 2) in
    let k : SlotTable = slot_table w.now w.past sound.owners sound.fates in
    let d : EpochMachine = Arms (arms.StoresEpoch slot c) in
    let d' : EpochMachine = Arms arms.AtRest in
    let h = sound.slots.holds a d got in
    let few : slot < drain_slots = h.0 in
    let action : Action = h.3.0 in
    let at_home : action_at w.now.actions slot ≡ Some action = h.3.1 in
    let x0 : Armed = record { slot = slot; epoch = c; action = action } in
    let same_epoch = low_epoch w.now.words place (c + 2) (omega arith) in
    let same_safe = low_safe w.now.words place (c + 2) (omega arith) in
    let now_armed : drain_word words' slot ≡ c + 2 = word_written w.now.words place (c + 2) (omega (arith, few, sound.enough_words)) in
    rw at_home
    (assembled w a d d' None w.past.in_force words' w.now.actions (x0 ∷ w.past.armed) w.past.claims w.past.runs (set_at sound.owners slot None) (set_at sound.fates c (Waits slot)) sound got
    (length-set w.now.words place (c + 2)) sound.eight_slots (inl (omega arith))
    (low_written w a d d' place (c + 2) sound got (omega arith) (omega (arith, few)) (λ s g. refl) tt)
    (arm k (epoch_of words') (safe_of words') (drain_word words') slot c action w.now.actors a d d' sound.slots got (omega arith) (omega arith) few h.1 h.2 at_home now_armed
    (λ s f n. other_drain w.now.words slot (c + 2) s n) tt)
    (record {
      armed_once = (not_among (λ (x : Armed). x.epoch) w.past.armed c (λ x o e. let s = sound.slots.armed_stage x o in let t = ap stage h.2 in let u = ap (λ i. stage (sound.fates i)) e in omega arith), sound.once.armed_once);
      claimed_once = sound.once.claimed_once;
      run_once = sound.once.run_once;
      by_the_claimer = sound.once.by_the_claimer;
      the_armed_action = λ x o. inr (sound.once.the_armed_action x o);
    }))
