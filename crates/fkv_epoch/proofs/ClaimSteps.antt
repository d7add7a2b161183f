-- Steps of a claim.
use Rattle.std.proofs.Common.{◌≡◌, ◌≢◌, ℕ, ◌+◌, ◌-◌, ◌<◌, ◌≤◌, List, [], ◌∷◌, length, refl, arith, sym, ap, inl, inr, ◌∙◌, max, Bool, true, false}
use Rattle.fkv_base.specs.Limits.{drain_slots}
use Rattle.std.specs.Prelude.{Option, Some, None, slice_get, slice_set, ◌==◌, nat_lt, nat_le, if◌then◌else◌, map}
use Rattle.std.proofs.lemmas.List.{set-get_or, length-set}
use Rattle.std.proofs.lemmas.Bool.Decides.{nat_tests}
use Rattle.fkv_plane.specs.declared.actions.Action.{Action}
use Rattle.fkv_plane.specs.declared.actions.Action.TheVariants as act
use Rattle.fkv_plane.specs.Asked.{word_at}
use Rattle.fkv_plane.specs.Plane.{action_at, found_action}
use Rattle.fkv_plane.specs.Places.{session_place, drain_place}
use Rattle.fkv_plane.specs.declared.places.SessionWord.TheVariants as own
use Rattle.fkv_epoch.specs.declared.claiming.Claiming.{Claiming}
use Rattle.fkv_epoch.specs.declared.claiming.Claiming.TheVariants.{AtRest, MeetsSlot, LoadsSafe, TakesSlot, Receives, Runs, FreesSlot}
use Rattle.fkv_epoch.specs.Claiming.{claim_ask, claim_next, claim_given, slot_after, slot_armed, phase_stored}
use Rattle.fkv_epoch.specs.EpochWorld.{EpochMachine, Claims, Sight, EpochWorld, Claimed, Ran, put_near, claimed, near, epoch_of, safe_of, own_epoch, drain_word, loaded}
use Rattle.fkv_epoch.specs.Once.{goes_by, Among}
use Rattle.fkv_epoch.proofs.Items.{word_written, word_spared, item_spared, within_item, set_at, set_here}
use Rattle.fkv_epoch.proofs.Epochs.{AreFrom, Knows, Epochs}
use Rattle.fkv_epoch.proofs.Slots.{Fate, Taken, Spent, stage, SlotTable, Holds, Slots, Waiting}
use Rattle.fkv_epoch.proofs.SlotRuns.{take, spend, free}
use Rattle.fkv_epoch.proofs.Sound.{IsSound, quiet, takes_none, slot_table, assembled, epochs_written}
use Rattle.fkv_epoch.proofs.SessionSteps.{SoundAfter, machine_changed}

-- a word below the sessions' blocks, and neither epoch, is written by an actor whose machine says nothing of epochs
pub low_written : (w : EpochWorld) (a : ℕ) (d d' : EpochMachine) (place word : ℕ) → IsSound w → slice_get w.now.actors a ≡ Some d → 2 ≤ place → place < 24
    → ((sight : Sight) → goes_by sight d' ≡ true → goes_by sight d ≡ true)
    → Knows w.now.sessions (epoch_of w.now.words) (own_epoch w.now.words a) (w.past.loads a) (AreFrom (own_epoch w.now.words) w.past.in_force w.now.actors) a d'
    → (let words' : List ℕ = slice_set w.now.words place word in
    Epochs w.now.sessions (epoch_of words') (safe_of words') (own_epoch words') (loaded w.past.loads a None (epoch_of w.now.words)) w.past.in_force (slice_set w.now.actors a d'))
low_written w a d d' place word sound got far low less knows =
    let same : own_epoch (slice_set w.now.words place word) a ≡ own_epoch w.now.words a = word_spared w.now.words place word (session_place a own.Epoch) (λ e. omega (arith, e, low)) in
    epochs_written w a d d' w.past.in_force place word sound got far (λ s i n e. omega (arith, e, low)) (takes_none w a None sound) (λ i. rw same (machine_changed w a d d' sound got less i)) (rw same knows)

pub low_epoch : (words : List ℕ) (place word : ℕ) → 2 ≤ place → epoch_of (slice_set words place word) ≡ epoch_of words
low_epoch words place word far = word_spared words place word 0 (λ e. omega (arith, e, far))

pub low_safe : (words : List ℕ) (place word : ℕ) → 2 ≤ place → safe_of (slice_set words place word) ≡ safe_of words
low_safe words place word far = word_spared words place word 1 (λ e. omega (arith, e, far))

-- other slots are spared
pub other_drain : (words : List ℕ) (slot word s : ℕ) → s ≢ slot → drain_word (slice_set words (drain_place slot) word) s ≡ drain_word words s
other_drain words slot word s n = word_spared words (drain_place slot) word (drain_place s) (λ e. n (omega (arith, e)))

-- an epoch that is at none of these stages is not among them
pub not_among : {X : Type 0} (f : X → ℕ) (xs : List X) (c : ℕ) → ((x : X) → Among x xs → f x ≡ c → ⊥) → ¬ Among c (map f xs)
not_among f [] c h o = o
not_among f (x ∷ xs) c h o = elim o [
  | inl e ↦ h x (inl refl) (sym e)
  | inr o' ↦ not_among f xs c (λ y p q. h y (inr p) q) o'
]

-- a test that leads one of two ways
way : (P : Claiming → Type 0) (b : Bool) (x y : Claiming) → (b ≡ true → P x) → (b ≡ false → P y) → P (if b then x else y)
way P true x y p q = p refl
way P false x y p q = q refl

-- the actor goes on to this state, and writes nothing
abbrev pub Leads : EpochWorld → ℕ → Claiming → Claiming → Type 0
Leads w a step next = IsSound (record { now = put_near w.now a (claimed w.now.words w.now.actions next); past = record w.past { loads = loaded w.past.loads a None (epoch_of w.now.words) } })

leads : (w : EpochWorld) (a : ℕ) (step next : Claiming) → IsSound w → slice_get w.now.actors a ≡ Some (Claims step)
    → ((owners : ℕ → Option ℕ) (fates : ℕ → Fate) → Slots (slot_table w.now w.past owners fates) w.now.actors → Holds (slot_table w.now w.past owners fates) a (Claims next))
    → IsSound (record { now = record w.now { actors = slice_set w.now.actors a (Claims next) }; past = record w.past { loads = loaded w.past.loads a None (epoch_of w.now.words) } })
leads w a step next sound got holds =
    quiet w a (Claims step) (Claims next) None sound got (inl (omega arith)) (machine_changed w a (Claims step) (Claims next) sound got (λ s g. refl)) tt holds

-- the next slot is met, or the claim is through
holds_after : (k : SlotTable) (a slot : ℕ) (z : Option ℕ) → slot < drain_slots → Holds k a (Claims (MeetsSlot slot z)) → Holds k a (Claims (slot_after slot z))
unfolding slot_after
holds_after k a slot None few h = way (λ s. Holds k a (Claims s)) (nat_lt (slot + 1) drain_slots) (MeetsSlot (slot + 1) None) AtRest (λ e. grind (arith, nat_tests, e)) (λ e. tt)
holds_after k a slot (Some z) few h = way (λ s. Holds k a (Claims s)) (nat_lt (slot + 1) drain_slots) (MeetsSlot (slot + 1) (Some z)) AtRest (λ e. (grind (arith, nat_tests, e), h.1)) (λ e. tt)

claimed_after : (words : List ℕ) (actions : List (Option Action)) (slot : ℕ) (z : Option ℕ) → claimed words actions (slot_after slot z) ≡ near words actions (Claims (slot_after slot z))
unfolding slot_after
claimed_after words actions slot z = way (λ s. claimed words actions s ≡ near words actions (Claims s)) (nat_lt (slot + 1) drain_slots) (MeetsSlot (slot + 1) z) AtRest (λ e. refl) (λ e. refl)

leads_after : (w : EpochWorld) (a slot : ℕ) (z : Option ℕ) (step : Claiming) → IsSound w → slice_get w.now.actors a ≡ Some (Claims step) → slot < drain_slots
    → ((owners : ℕ → Option ℕ) (fates : ℕ → Fate) → Holds (slot_table w.now w.past owners fates) a (Claims (MeetsSlot slot z)))
    → Leads w a step (slot_after slot z)
leads_after w a slot z step sound got few knows =
    rw (claimed_after w.now.words w.now.actions slot z)
    (leads w a step (slot_after slot z) sound got (λ o f s. holds_after (slot_table w.now w.past o f) a slot z few (knows o f)))

leads_armed : (w : EpochWorld) (a slot word z : ℕ) (step : Claiming) → IsSound w → slice_get w.now.actors a ≡ Some (Claims step) → slot < drain_slots → 2 ≤ word → z ≤ safe_of w.now.words
    → Leads w a step (slot_armed slot word z)
unfolding slot_armed
leads_armed w a slot word z step sound got few some safe =
    way (λ s. Leads w a step s) (nat_le (word - 2) z) (TakesSlot slot word z) (slot_after slot (Some z))
    (λ e. leads w a step (TakesSlot slot word z) sound got (λ o f s. (few, safe, some, grind (arith, nat_tests, e))))
    (λ e. leads_after w a slot (Some z) step sound got few (λ o f. (few, safe)))

-- running an action writes one word that is none of these machines'
run_moves : (w : EpochWorld) (a slot c z : ℕ) (action : Action) (place word : ℕ) → IsSound w → slice_get w.now.actors a ≡ Some (Claims (Runs slot c z action)) → 2 ≤ place → place < 16
    → IsSound (record {
      now = record w.now { words = slice_set w.now.words place word; actors = slice_set w.now.actors a (Claims (FreesSlot slot z)) };
      past = record { loads = loaded w.past.loads a None (epoch_of w.now.words); in_force = w.past.in_force; armed = w.past.armed; claims = w.past.claims; runs = record { actor = a; slot = slot; epoch = c; action = action } ∷ w.past.runs };
    })
run_moves w a slot c z action place word sound got far low =
    let words' : List ℕ = slice_set w.now.words place word in
    let k : SlotTable = slot_table w.now w.past sound.owners sound.fates in
    let d : EpochMachine = Claims (Runs slot c z action) in
    let d' : EpochMachine = Claims (FreesSlot slot z) in
    let h = sound.slots.holds a d got in
    let r0 : Ran = record { actor = a; slot = slot; epoch = c; action = action } in
    let same_epoch = low_epoch w.now.words place word far in
    let same_safe = low_safe w.now.words place word far in
    assembled w a d d' None w.past.in_force words' w.now.actions w.past.armed w.past.claims (r0 ∷ w.past.runs) sound.owners (set_at sound.fates c Spent) sound got
    (length-set w.now.words place word) sound.eight_slots (inl (omega arith))
    (low_written w a d d' place word sound got far (omega (arith, low)) (λ s g. refl) tt)
    (spend k (epoch_of words') (safe_of words') (drain_word words') slot c action w.now.actors a d d' sound.slots got (omega arith) (omega arith) h.3
    (λ s f. word_spared w.now.words place word (drain_place s) (λ e. omega (arith, e, low)))
    (h.0, omega (arith, h.1, same_safe), h.2, h.6))
    (record {
      armed_once = sound.once.armed_once;
      claimed_once = sound.once.claimed_once;
      run_once = (not_among (λ (x : Ran). x.epoch) w.past.runs c (λ x o e. let s = sound.slots.run_stage x o in let t = ap stage h.3 in let u = ap (λ i. stage (sound.fates i)) e in omega arith), sound.once.run_once);
      by_the_claimer = λ x o. elim o [ inl e ↦ rw e h.5 | inr o' ↦ sound.once.by_the_claimer x o' ];
      the_armed_action = λ x o. elim o [ inl e ↦ rw e h.4 | inr o' ↦ sound.once.the_armed_action x o' ];
    })

-- the Cas that claims an armed slot is won
take_moves : (w : EpochWorld) (a slot word z : ℕ) → IsSound w → slice_get w.now.actors a ≡ Some (Claims (TakesSlot slot word z)) → drain_word w.now.words slot ≡ word
    → IsSound (record {
      now = put_near w.now a (claimed (slice_set w.now.words (drain_place slot) 1) w.now.actions (Receives slot (word - 2) z));
      past = record { loads = loaded w.past.loads a None (epoch_of w.now.words); in_force = w.past.in_force; armed = w.past.armed; claims = record { actor = a; slot = slot; epoch = word - 2 } ∷ w.past.claims; runs = w.past.runs };
    })
unfolding claim_given
take_moves w a slot word z sound got found =
    let c : ℕ = word - 2 in
    let place : ℕ = drain_place slot in
    let words' : List ℕ = slice_set w.now.words place 1 in
    let actions' : List (Option Action) = slice_set w.now.actions slot None in
    let k : SlotTable = slot_table w.now w.past sound.owners sound.fates in
    let d : EpochMachine = Claims (TakesSlot slot word z) in
    let h = sound.slots.holds a d got in
    let few : slot < drain_slots = h.0 in
    let some : 2 ≤ word = h.2 in
    let at_slot : drain_word w.now.words slot ≡ c + 2 = omega (arith, found, some) in
    let wait : Waiting k slot c = sound.slots.waiting slot c few at_slot in
    let d' : EpochMachine = Claims (Runs slot c z wait.action) in
    let t0 : Claimed = record { actor = a; slot = slot; epoch = c } in
    let same_epoch = low_epoch w.now.words place 1 (omega arith) in
    let same_safe = low_safe w.now.words place 1 (omega arith) in
    let now_one : drain_word words' slot ≡ 1 = word_written w.now.words place 1 (omega (arith, few, sound.enough_words)) in
    let same_actions : length actions' ≡ length w.now.actions = length-set w.now.actions slot None in
    let now_bare : action_at actions' slot ≡ None = ap found_action (within_item w.now.actions slot None (omega (arith, few, sound.eight_slots))) in
    rw wait.at_home
    (assembled w a d d' None w.past.in_force words' actions' w.past.armed (t0 ∷ w.past.claims) w.past.runs (set_at sound.owners slot (Some a)) (set_at sound.fates c (Taken a)) sound got
    (length-set w.now.words place 1) (same_actions ∙ sound.eight_slots) (inl (omega arith))
    (low_written w a d d' place 1 sound got (omega arith) (omega (arith, few)) (λ s g. refl) tt)
    (take k (epoch_of words') (safe_of words') (drain_word words') (action_at actions') slot c w.now.actors a d d' sound.slots got (omega arith) (omega arith) few at_slot now_one
    (λ s f n. other_drain w.now.words slot 1 s n)
    (λ s f n. ap found_action (item_spared w.now.actions slot s None n))
    (few, omega (arith, h.1, same_safe), set_here sound.owners slot (Some a) slot refl, set_here sound.fates c (Taken a) c refl, wait.was_armed, inl refl, now_bare))
    (record {
      armed_once = sound.once.armed_once;
      claimed_once = (not_among (λ (x : Claimed). x.epoch) w.past.claims c (λ x o e. let s = sound.slots.claimed_stage x o in let t = ap stage wait.waits in let u = ap (λ i. stage (sound.fates i)) e in omega arith), sound.once.claimed_once);
      run_once = sound.once.run_once;
      by_the_claimer = λ x o. inr (sound.once.by_the_claimer x o);
      the_armed_action = sound.once.the_armed_action;
    }))

-- the slot is freed
free_moves : (w : EpochWorld) (a slot z : ℕ) → IsSound w → slice_get w.now.actors a ≡ Some (Claims (FreesSlot slot z))
    → IsSound (record { now = put_near w.now a (claimed (slice_set w.now.words (drain_place slot) 0) w.now.actions (slot_after slot (Some z))); past = record w.past { loads = loaded w.past.loads a None (epoch_of w.now.words) } })
free_moves w a slot z sound got =
    let place : ℕ = drain_place slot in
    let words' : List ℕ = slice_set w.now.words place 0 in
    let k : SlotTable = slot_table w.now w.past sound.owners sound.fates in
    let d : EpochMachine = Claims (FreesSlot slot z) in
    let h = sound.slots.holds a d got in
    let few : slot < drain_slots = h.0 in
    let d' : EpochMachine = Claims (slot_after slot (Some z)) in
    let same_epoch = low_epoch w.now.words place 0 (omega arith) in
    let same_safe = low_safe w.now.words place 0 (omega arith) in
    let now_zero : drain_word words' slot ≡ 0 = word_written w.now.words place 0 (omega (arith, few, sound.enough_words)) in
    let k' : SlotTable = record k { epoch = epoch_of words'; safe = safe_of words'; drains = drain_word words'; owners = set_at sound.owners slot None } in
    rw (claimed_after words' w.now.actions slot (Some z))
    (assembled w a d d' None w.past.in_force words' w.now.actions w.past.armed w.past.claims w.past.runs (set_at sound.owners slot None) sound.fates sound got
    (length-set w.now.words place 0) sound.eight_slots (inl (omega arith))
    (low_written w a d d' place 0 sound got (omega arith) (omega (arith, few)) (λ s g. refl) tt)
    (free k (epoch_of words') (safe_of words') (drain_word words') slot w.now.actors a d d' sound.slots got (omega arith) (omega arith) h.2 h.3 now_zero
    (λ s f n. other_drain w.now.words slot 0 s n)
    (holds_after k' a slot (Some z) few (few, omega (arith, h.1, same_safe))))
    sound.once)

pub claim_moves : (w : EpochWorld) (a : ℕ) (step : Claiming) → IsSound w → slice_get w.now.actors a ≡ Some (Claims step) → SoundAfter w a (Claims step)
unfolding claim_ask claim_next
claim_moves w a AtRest sound got = leads w a AtRest AtRest sound got (λ o f s. tt)
claim_moves w a (MeetsSlot slot None) sound got =
    let k = sound.slots.holds a (Claims (MeetsSlot slot None)) got in
    rw (set-get_or w.now.words (drain_place slot) 0)
    (way (λ s. Leads w a (MeetsSlot slot None) s) (nat_lt (drain_word w.now.words slot) 2) (slot_after slot None) (LoadsSafe slot (drain_word w.now.words slot))
    (λ e. leads_after w a slot None (MeetsSlot slot None) sound got k (λ o f. k))
    (λ e. leads w a (MeetsSlot slot None) (LoadsSafe slot (drain_word w.now.words slot)) sound got (λ o f s. (k, grind (arith, nat_tests, e)))))
claim_moves w a (MeetsSlot slot (Some z)) sound got =
    let k = sound.slots.holds a (Claims (MeetsSlot slot (Some z))) got in
    rw (set-get_or w.now.words (drain_place slot) 0)
    (way (λ s. Leads w a (MeetsSlot slot (Some z)) s) (nat_lt (drain_word w.now.words slot) 2) (slot_after slot (Some z)) (slot_armed slot (drain_word w.now.words slot) z)
    (λ e. leads_after w a slot (Some z) (MeetsSlot slot (Some z)) sound got k.0 (λ o f. k))
    (λ e. leads_armed w a slot (drain_word w.now.words slot) z (MeetsSlot slot (Some z)) sound got k.0 (grind (arith, nat_tests, e)) k.1))
claim_moves w a (LoadsSafe slot word) sound got =
    let k = sound.slots.holds a (Claims (LoadsSafe slot word)) got in
    rw (set-get_or w.now.words 1 0)
    (leads_armed w a slot word (safe_of w.now.words) (LoadsSafe slot word) sound got k.0 k.1 (omega arith))
claim_moves w a (TakesSlot slot word z) sound got = tried (drain_word w.now.words slot == word) refl
  where
    tried : (b : Bool) → (drain_word w.now.words slot == word) ≡ b → SoundAfter w a (Claims (TakesSlot slot word z))
    tried true e = rw e (take_moves w a slot word z sound got (grind (arith, nat_tests, e)))
    tried false e =
        let k = sound.slots.holds a (Claims (TakesSlot slot word z)) got in
        rw e (rw (set-get_or w.now.words (drain_place slot) 0) (leads_after w a slot (Some z) (TakesSlot slot word z) sound got k.0 (λ o f. (k.0, k.1))))
claim_moves w a (Receives slot c z) sound got = absurd (sound.slots.holds a (Claims (Receives slot c z)) got)
claim_moves w a (Runs slot c z (act.SafeReadOnly addr)) sound got = run_moves w a slot c z (act.SafeReadOnly addr) 6 (max (word_at w.now.words 6) addr.0) sound got (omega arith) (omega arith)
claim_moves w a (Runs slot c z (act.Close addr)) sound got = run_moves w a slot c z (act.Close addr) 9 (max (word_at w.now.words 9) addr.0) sound got (omega arith) (omega arith)
claim_moves w a (Runs slot c z (act.Phase phase version)) sound got = run_moves w a slot c z (act.Phase phase version) 2 (phase_stored phase version) sound got (omega arith) (omega arith)
claim_moves w a (FreesSlot slot z) sound got = free_moves w a slot z sound got
