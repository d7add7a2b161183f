-- The events that are no ask of these machines: an action put into a slot, another load of a session, another word.
use Rattle.std.proofs.Common.{◌≡◌, ℕ, zero, suc, ◌+◌, ◌-◌, ◌*◌, ◌%◌, ◌<◌, ◌≤◌, List, [], ◌∷◌, length, refl, arith, sym, ap, inl, inr, ◌∙◌, Bool, true, false, eq-eqb}
use Rattle.fkv_base.specs.Limits.{drain_slots}
use Rattle.std.specs.Prelude.{Option, Some, None, slice_get, slice_set, ◌==◌, ◌&&◌, ◌||◌, nat_lt, nat_le}
use Rattle.std.proofs.lemmas.List.{length-set}
use Rattle.std.proofs.lemmas.Bool.Decides.{nat_tests}
use Rattle.fkv_plane.specs.declared.actions.Action.{Action}
use Rattle.fkv_plane.specs.Plane.{action_at, found_action}
use Rattle.fkv_plane.specs.Places.{session_place, drain_place}
use Rattle.fkv_plane.specs.declared.places.SessionWord.TheVariants as own
use Rattle.fkv_epoch.specs.declared.protecting.Protecting.TheVariants as protect
use Rattle.fkv_epoch.specs.declared.refreshing.Refreshing.TheVariants as refresh
use Rattle.fkv_epoch.specs.declared.leaving.Leaving.TheVariants as leave
use Rattle.fkv_epoch.specs.declared.scanning.Scanning.TheVariants as scan
use Rattle.fkv_epoch.specs.declared.arming.Arming.TheVariants as arm
use Rattle.fkv_epoch.specs.Arming.{arm_next}
use Rattle.fkv_epoch.specs.EpochWorld.{EpochMachine, Protects, Refreshes, Leaves, Scans, Claims, Raises, HasRaised, Arms, Sight, OfPhase, OfReadOnly, OfHead, Loads, EpochWorld, put, past_seen, epoch_of, safe_of, own_epoch, drain_word, loaded, with_load, is_own}
use Rattle.fkv_epoch.specs.Once.{load_of}
use Rattle.fkv_epoch.proofs.Items.{word_spared, item_spared, within_item}
use Rattle.fkv_epoch.proofs.Epochs.{AreFrom, Knows, knows_more, from_moved}
use Rattle.fkv_epoch.proofs.Slots.{SlotTable, holds_more}
use Rattle.fkv_epoch.proofs.SlotSteps as slots
use Rattle.fkv_epoch.proofs.Sound.{IsSound, takes_none, takes_load, looks, slot_table, load_up, assembled, epochs_step}
use Rattle.fkv_epoch.proofs.SessionSteps.{machine_changed, looking}
use Rattle.fkv_epoch.proofs.Happens.{no_load}

same_item : {X : Type 0} (xs : List X) (i : ℕ) (x : X) → slice_get xs i ≡ Some x → slice_set xs i x ≡ xs
same_item [] i x e = refl
same_item (y ∷ ys) zero x e = let h : y ≡ x = cc in ap (λ z. z ∷ ys) (sym h)
same_item (y ∷ ys) (suc i) x e = ap (λ zs. y ∷ zs) (same_item ys i x e)

put_bears : (w : EpochWorld) (a slot c : ℕ) (action : Action) → IsSound w → slice_get w.now.actors a ≡ Some (HasRaised slot c)
    → IsSound (record { now = record w.now { actions = slice_set w.now.actions slot (Some action); actors = slice_set w.now.actors a (Arms (arm.StoresEpoch slot c)) }; past = w.past })
put_bears w a slot c action sound got =
    let actions' : List (Option Action) = slice_set w.now.actions slot (Some action) in
    let k : SlotTable = slot_table w.now w.past sound.owners sound.fates in
    let d : EpochMachine = HasRaised slot c in
    let d' : EpochMachine = Arms (arm.StoresEpoch slot c) in
    let h = sound.slots.holds a d got in
    let few : slot < drain_slots = h.0 in
    let same_actions : length actions' ≡ length w.now.actions = length-set w.now.actions slot (Some action) in
    let home : action_at actions' slot ≡ Some action = ap found_action (within_item w.now.actions slot (Some action) (omega (arith, few, sound.eight_slots))) in
    let none = no_load w.past.loads a (epoch_of w.now.words) in
    let whole = assembled w a d d' None w.past.in_force w.now.words actions' w.past.armed w.past.claims w.past.runs sound.owners sound.fates sound got
    refl (same_actions ∙ sound.eight_slots) (inl (omega arith))
    (epochs_step w.now.sessions (epoch_of w.now.words) (epoch_of w.now.words) (safe_of w.now.words) (safe_of w.now.words) (own_epoch w.now.words) (own_epoch w.now.words) w.past.loads w.past.in_force w.past.in_force w.now.actors a d d' None
    sound.epochs got (omega arith) sound.epochs.safe_below sound.epochs.above_safe (λ s i n. refl) (takes_none w a None sound) (machine_changed w a d d' sound got (λ s g. refl)) tt)
    (slots.put k (action_at actions') slot w.now.actors a d d' sound.slots got few h.1
    (λ s f n. ap found_action (item_spared w.now.actions slot s (Some action) n))
    (few, h.1, h.2, (action, home)))
    sound.once in
    rw none at whole

pub put_sound : (w : EpochWorld) (a : ℕ) (action : Action) (found : Option EpochMachine) → slice_get w.now.actors a ≡ found → IsSound w → IsSound (record { now = put w.now a action found; past = w.past })
unfolding arm_next
put_sound w a action None got sound = sound
put_sound w a action (Some (HasRaised slot c)) got sound = put_bears w a slot c action sound got
put_sound w a action (Some (Protects x)) got sound = sound
put_sound w a action (Some (Refreshes x)) got sound = sound
put_sound w a action (Some (Leaves x)) got sound = sound
put_sound w a action (Some (Scans x)) got sound = sound
put_sound w a action (Some (Claims x)) got sound = sound
put_sound w a action (Some (Raises x)) got sound = sound
put_sound w a action (Some (Arms x)) got sound = sound

-- a later load takes nothing from what a machine knows
knows_load : (S E word : ℕ) (l l' : Loads) (From : ℕ → ℕ → Type 0) (a : ℕ) (d : EpochMachine) → ((s : Sight) → load_of l s ≤ load_of l' s) → Knows S E word l From a d → Knows S E word l' From a d
knows_load S E w l l' F a (Protects protect.AtRest) up k = k
knows_load S E w l l' F a (Protects protect.LoadsEpoch) up k = k
knows_load S E w l l' F a (Protects (protect.StoresEpoch x)) up k = k
knows_load S E w l l' F a (Protects protect.LoadsPhase) up k = k
knows_load S E w l l' F a (Protects (protect.LoadsReadOnly x)) up k = k
knows_load S E w l l' F a (Protects (protect.LoadsHead x y)) up k = k
knows_load S E w l l' F a (Refreshes refresh.AtRest) up k = k
knows_load S E w l l' F a (Refreshes refresh.LoadsEpoch) up k = k
knows_load S E w l l' F a (Refreshes (refresh.LoadsPhase x)) up k = k
knows_load S E w l l' F a (Refreshes (refresh.LoadsReadOnly x y)) up k = let p = up OfPhase in (k.0, k.1, k.2, k.3, omega (arith, p, k.4))
knows_load S E w l l' F a (Refreshes (refresh.LoadsHead x y z)) up k = let p = up OfPhase in let r = up OfReadOnly in (k.0, k.1, k.2, k.3, omega (arith, p, k.4), omega (arith, r, k.5))
knows_load S E w l l' F a (Refreshes (refresh.HasLoaded x y)) up k = let p = up OfPhase in let r = up OfReadOnly in let h = up OfHead in (k.0, k.1, k.2, k.3, omega (arith, p, k.4), omega (arith, r, k.5), omega (arith, h, k.6))
knows_load S E w l l' F a (Refreshes (refresh.StoresEpoch x)) up k = let p = up OfPhase in let r = up OfReadOnly in let h = up OfHead in (k.0, k.1, k.2, k.3, omega (arith, p, k.4), omega (arith, r, k.5), omega (arith, h, k.6))
knows_load S E w l l' F a (Leaves leave.AtRest) up k = k
knows_load S E w l l' F a (Leaves leave.StoresZero) up k = k
knows_load S E w l l' F a (Scans scan.AtRest) up k = k
knows_load S E w l l' F a (Scans scan.LoadsEpoch) up k = k
knows_load S E w l l' F a (Scans (scan.LoadsSession i m)) up k = k
knows_load S E w l l' F a (Scans (scan.RaisesSafe m)) up k = k
knows_load S E w l l' F a (Claims x) up k = k
knows_load S E w l l' F a (Raises x) up k = k
knows_load S E w l l' F a (HasRaised x y) up k = k
knows_load S E w l l' F a (Arms x) up k = k

pub seen_sound : (w : EpochWorld) (a : ℕ) (x : Sight) (found : Option EpochMachine) → slice_get w.now.actors a ≡ found → IsSound w → IsSound (record { now = w.now; past = past_seen w.now a x w.past found })
seen_sound w a x None got sound = sound
seen_sound w a x (Some d) got sound =
    let E : ℕ = epoch_of w.now.words in
    let whole = looks w a d d (Some x) (loaded w.past.in_force a (Some x) E) sound got (inl (omega arith)) (takes_load w a (Some x) sound) (looking w a d d x sound got (λ s g. inr g))
    (knows_load w.now.sessions E (own_epoch w.now.words a) (w.past.loads a) (with_load (w.past.loads a) (Some x) E) (AreFrom (own_epoch w.now.words) w.past.in_force w.now.actors) a d
    (load_up (w.past.loads a) x E (λ s. sound.epochs.loads_below a s)) (sound.epochs.knows a d got))
    (λ o f s. s.holds a d got) in
    rw (same_item w.now.actors a d got) at whole

-- a place that is none of these machines' is not where one of their words stands
pub not_both : (b : Bool) {X : Type 0} → b ≡ true → b ≡ false → X
not_both b t f = cc

left_true : (b c : Bool) → b ≡ true → (b || c) ≡ true
left_true true c e = refl
left_true false c e = cc

right_true : (b c : Bool) → c ≡ true → (b || c) ≡ true
right_true true c e = refl
right_true false true e = refl
right_true false false e = cc

and_true : (b c : Bool) → b ≡ true → c ≡ true → (b && c) ≡ true
and_true true true p q = refl
and_true true false p q = cc
and_true false true p q = cc
and_true false false p q = cc

own_low : (S p : ℕ) → p < 2 → is_own S p ≡ true
own_low S p h =
    let t : nat_lt p 2 ≡ true = grind (arith, nat_tests) in
    left_true (nat_lt p 2 || (nat_le 16 p && nat_lt p 24)) (nat_le 24 p && nat_lt p (24 + 16 * S) && (p - 24) % 16 == 0) (left_true (nat_lt p 2) (nat_le 16 p && nat_lt p 24) t)

own_drain : (S p : ℕ) → 16 ≤ p → p < 24 → is_own S p ≡ true
own_drain S p low high =
    let t : nat_le 16 p ≡ true = grind (arith, nat_tests) in
    let u : nat_lt p 24 ≡ true = grind (arith, nat_tests) in
    left_true (nat_lt p 2 || (nat_le 16 p && nat_lt p 24)) (nat_le 24 p && nat_lt p (24 + 16 * S) && (p - 24) % 16 == 0) (right_true (nat_lt p 2) (nat_le 16 p && nat_lt p 24) (and_true (nat_le 16 p) (nat_lt p 24) t u))

pub own_session : (S s p : ℕ) → s < S → p ≡ 24 + 16 * s → is_own S p ≡ true
own_session S s p h e =
    let t : nat_le 24 p ≡ true = grind (arith, nat_tests) in
    let u : nat_lt p (24 + 16 * S) ≡ true = grind (arith, nat_tests) in
    let m : (p - 24) % 16 ≡ 0 = omega arith in
    let v : ((p - 24) % 16 == 0) ≡ true = eq-eqb ((p - 24) % 16) 0 m in
    right_true (nat_lt p 2 || (nat_le 16 p && nat_lt p 24)) (nat_le 24 p && nat_lt p (24 + 16 * S) && (p - 24) % 16 == 0) (and_true (nat_le 24 p && nat_lt p (24 + 16 * S)) ((p - 24) % 16 == 0) (and_true (nat_le 24 p) (nat_lt p (24 + 16 * S)) t u) v)

-- another word changes
pub changes_sound : (w : EpochWorld) (p v : ℕ) → is_own w.now.sessions p ≡ false → IsSound w → IsSound (record { now = record w.now { words = slice_set w.now.words p v }; past = w.past })
changes_sound w p v foreign sound =
    let S : ℕ = w.now.sessions in
    let words : List ℕ = w.now.words in
    let words' : List ℕ = slice_set words p v in
    let apart : is_own S p ≡ true → ⊥ = λ y. not_both (is_own S p) y foreign in
    let same_epoch : epoch_of words' ≡ epoch_of words = word_spared words p v 0 (λ e. apart (own_low S p (omega (arith, e)))) in
    let same_safe : safe_of words' ≡ safe_of words = word_spared words p v 1 (λ e. apart (own_low S p (omega (arith, e)))) in
    let same_own : (s : ℕ) → s < S → own_epoch words' s ≡ own_epoch words s = λ s h. word_spared words p v (session_place s own.Epoch) (λ e. apart (own_session S s p h (omega (arith, e)))) in
    let same_drain : (s : ℕ) → s < drain_slots → drain_word words' s ≡ drain_word words s = λ s h. word_spared words p v (drain_place s) (λ e. apart (own_drain S p (omega (arith, e)) (omega (arith, e, h)))) in
    let k : SlotTable = slot_table w.now w.past sound.owners sound.fates in
    let k' : SlotTable = record k { epoch = epoch_of words'; safe = safe_of words'; drains = drain_word words' } in
    let old = sound.epochs in
    let more : (m i : ℕ) → m ≤ epoch_of words → i ≤ S → AreFrom (own_epoch words) w.past.in_force w.now.actors m i → AreFrom (own_epoch words') w.past.in_force w.now.actors m i = λ m i below few f s inside machine got.
    from_moved m (own_epoch words s) (own_epoch words' s) (w.past.in_force s) (w.past.in_force s) machine (same_own s (omega (arith, inside, few))) refl (f s inside machine got) in
    let below = old.safe_below in
    record {
      few_sessions = sound.few_sessions;
      enough_words = let same : length words' ≡ length words = length-set words p v in omega (arith, same, sound.enough_words);
      eight_slots = sound.eight_slots;
      few_actors = sound.few_actors;
      bounded = rw same_epoch sound.bounded;
      epochs = record {
        safe_below = omega (arith, same_epoch, same_safe, below);
        loads_below = λ s sight. let h = old.loads_below s sight in omega (arith, same_epoch, h);
        force_below = old.force_below;
        words_below = λ s h. let x = old.words_below s h in let y = same_own s h in omega (arith, x, y, same_epoch);
        above_safe = rw same_safe (more (safe_of words + 1) S below (omega arith) old.above_safe);
        above_word = λ s h machine got. rw (same_own s h) (old.above_word s h machine got);
        knows = λ b machine got. knows_more S (epoch_of words) (epoch_of words') (own_epoch words b) (own_epoch words' b) (w.past.loads b) (w.past.loads b) (AreFrom (own_epoch words) w.past.in_force w.now.actors) (AreFrom (own_epoch words') w.past.in_force w.now.actors) b machine
            (omega (arith, same_epoch)) (same_own b) refl more (old.knows b machine got);
      };
      owners = sound.owners;
      fates = sound.fates;
      slots = record {
        unowned = λ s few n. sound.slots.unowned s few (λ e. n (same_drain s few ∙ e));
        empty = λ s few e. sound.slots.empty s few (sym (same_drain s few) ∙ e);
        waiting = λ s c few e. let h = sound.slots.waiting s c few (sym (same_drain s few) ∙ e) in record { waits = h.waits; action = h.action; at_home = h.at_home; was_armed = h.was_armed };
        not_raised = λ c h. sound.slots.not_raised c (omega (arith, h, same_epoch));
        armed_stage = sound.slots.armed_stage;
        claimed_stage = sound.slots.claimed_stage;
        run_stage = sound.slots.run_stage;
        holds = λ b machine got. holds_more k k' b machine (record { safe = omega (arith, same_safe); owner = λ s f o. o; home = λ s f o. refl; carried = λ c o. o; taken = λ c o. o; armed = λ x o. o; claims = λ x o. o }) (sound.slots.holds b machine got);
      };
      once = sound.once;
    }
