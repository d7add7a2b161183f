-- The step that raises the epoch for an action, which goes into the actor's slot at once.
use Rattle.std.proofs.Common.{subst, ◌≡◌, ℕ, ◌+◌, ◌%◌, ◌^◌, ◌<◌, ◌≤◌, List, length, map, refl, arith, sym, ap, inl, ◌∙◌}
use Rattle.std.specs.Prelude.{Option, Some, slice_get, slice_set}
use Rattle.std.proofs.lemmas.List.{map-set, set-set, length-set}
use Rattle.fkv_plane.specs.declared.actions.Action.{Action}
use Rattle.fkv_plane.specs.declared.actions.Action.TheVariants as act
use Rattle.fkv_plane.specs.Plane.{action_at, found_action}
use Rattle.fkv_plane.specs.Places.{session_place}
use Rattle.fkv_plane.specs.declared.places.SessionWord.TheVariants as own
use Rattle.fkv_epoch.specs.declared.raising.Raising.TheVariants as raise
use Rattle.fkv_epoch.specs.declared.arming.Arming.TheVariants as arm
use Rattle.fkv_epoch.specs.Raising.{raise_ask, raise_next}
use Rattle.fkv_epoch.specs.Arming.{arm_next}
use Rattle.fkv_epoch.specs.EpochWorld.{EpochMachine, Raises, HasRaised, Arms, Sight, OfReadOnly, OfHead, Loads, safe_of, epoch_of, own_epoch, past_moved}
use Rattle.fkv_epoch.specs.EpochWorld as epochs
use Rattle.fkv_epoch.specs.Once.{goes_by}
use Rattle.fkv_epoch.proofs.Shown.{word_spared, item_written, item_spared, within_item, some_same, moved_sound, no_load, put_sound}
use Rattle.fkv_epoch.proofs.Shown as epochs_sound
use Rattle.fkv_flush.specs.GuardLevels.{Levels, levels_of, AreInOrder, Rises}
use Rattle.fkv_flush.specs.GuardSeen.{LastSeen, IsStored}
use Rattle.fkv_flush.specs.GuardWorld.{Actor, GuardNow, GuardWorld, epoch_now, epoch_world}
use Rattle.fkv_flush.specs.Guarded.{is_steady, seen_at, seen_of, undecided_at, GoesBy}
use Rattle.fkv_flush.proofs.Guard.{Known, SeesOn, fresh_on}
use Rattle.fkv_flush.proofs.GuardSound.{Knows, IsSound, Awake, machine_of, machine_at, after, assembled}
use Rattle.fkv_flush.proofs.GuardSteps.{rises_same, goes_with}

same_bearing : (slot slot' c c' : ℕ) → Arms (arm.StoresEpoch slot c) ≡ Arms (arm.StoresEpoch slot' c') → (slot ≡ slot') × (c ≡ c')
same_bearing slot slot' c c' e = (cc, cc)

-- nobody has loaded anything above the epoch, and so all who will have loaded above it will have seen the offset
known_now : (l : Levels) (C : ℕ → Sight → Type 0) (seen : ℕ → LastSeen) (loads : ℕ → Loads) (c : ℕ) (x : Action) → IsStored l x → ((s : ℕ) → (loads s).read_only ≤ c) → ((s : ℕ) → (loads s).head ≤ c) → Known l C seen loads c x
known_now l C seen loads c (act.SafeReadOnly addr) stored r h = record { stored = stored; have_seen = λ s g later. let i = r s in absurd (omega (arith, i, later)) }
known_now l C seen loads c (act.Close addr) stored r h = record { stored = stored; have_seen = λ s g later. let i = h s in absurd (omega (arith, i, later)) }
known_now l C seen loads c (act.Phase phase version) stored r h = record { stored = tt; have_seen = tt }

stored_same : (l l' : Levels) (x : Action) → l ≡ l' → IsStored l x → IsStored l' x
stored_same l l' x e h = subst (λ (m : Levels). IsStored m x) e h

pub put_for : (w : GuardWorld) (a : ℕ) (x x' : Actor) (slot : ℕ) (action : Action) → IsSound w → slice_get w.now.actors a ≡ Some x → x.machine ≡ Raises (raise.RaisesEpoch slot)
    → IsStored (levels_of w.now.words) action
    → x'.machine ≡ Arms (arm.StoresEpoch slot (epoch_of w.now.words)) → x'.seen ≡ x.seen → x'.undecided ≡ x.undecided
    → ((A : Type 0) → Knows w.now.shape (levels_of w.now.words) A x'.machine x'.undecided x'.work)
    → IsSound (after w a x' (slice_set w.now.words 0 ((epoch_of w.now.words + 1) % 2 ^ 64)) (slice_set w.now.actions slot (Some action)) w.past)
unfolding raise_ask raise_next arm_next
put_for w a x x' slot action sound got its stored machine seen undecided knows =
    let n : GuardNow = w.now in
    let E : ℕ = epoch_of n.words in
    let v : ℕ = (E + 1) % 2 ^ 64 in
    let e : epochs.EpochWorld = epoch_world w in
    let d : EpochMachine = Raises (raise.RaisesEpoch slot) in
    let d' : EpochMachine = Arms (arm.StoresEpoch slot E) in
    let words' : List ℕ = slice_set n.words 0 v in
    let actions' : List (Option Action) = slice_set n.actions slot (Some action) in
    let w' : GuardWorld = after w a x' words' actions' w.past in
    let n' : GuardNow = w'.now in
    let l : Levels = levels_of n.words in
    let l' : Levels = levels_of words' in
    let machines : List EpochMachine = map machine_of n.actors in
    let got_e : slice_get machines a ≡ Some d = machine_at n.actors a x got ∙ ap Some its in
    let swap : map machine_of (slice_set n.actors a x') ≡ slice_set machines a d' = map-set machine_of n.actors a x' ∙ ap (slice_set machines a) machine in
    let none = no_load w.past.loads a E in
    let twice : slice_set (slice_set machines a (HasRaised slot E)) a d' ≡ slice_set machines a d' = set-set machines a (HasRaised slot E) d' in
    let raised = rw none at (moved_sound e a (Some d) got_e sound.epochs) in
    let middle : epochs.EpochWorld = record { now = record e.now { words = words'; actors = slice_set machines a (HasRaised slot E) }; past = w.past } in
    let put : epochs_sound.IsSound (record { now = record e.now { words = words'; actions = actions'; actors = slice_set (slice_set machines a (HasRaised slot E)) a d' }; past = w.past })
    = put_sound middle a action (Some (HasRaised slot E)) (item_written machines a d (HasRaised slot E) got_e) raised in
    let epochs' : epochs_sound.IsSound (epoch_world w') = rw swap (rw twice at put) in
    let same : l' ≡ l = levels_there n.words v in
    let back = sym same in
    let up : Rises l l' = rises_same l l' same in
    let at_a : slice_get n'.actors a ≡ Some x' = item_written n.actors a x x' got in
    let same_word : own_epoch words' a ≡ own_epoch n.words a = word_spared n.words 0 v (session_place a own.Epoch) (λ i. omega (arith, i)) in
    let goes : (sight : Sight) → goes_by sight x'.machine ≡ goes_by sight x.machine = λ sight. ap (goes_by sight) machine ∙ sym (ap (goes_by sight) its) in
    let steady : is_steady x'.machine ≡ is_steady x.machine = ap is_steady machine ∙ sym (ap is_steady its) in
    let forth : (sight : Sight) → GoesBy n a sight → GoesBy n' a sight = λ sight c.
    goes_with (epoch_now n) (epoch_now n') a x.machine x'.machine sight refl (λ h. same_word) (machine_at n.actors a x got) (machine_at n'.actors a x' at_a) (goes sight) c in
    let before : (sight : Sight) → GoesBy n' a sight → GoesBy n a sight = λ sight c.
    goes_with (epoch_now n') (epoch_now n) a x'.machine x.machine sight refl (λ h. sym same_word) (machine_at n'.actors a x' at_a) (machine_at n.actors a x got) (sym (goes sight)) c in
    let seen_here : seen_of n'.actors a ≡ seen_of n.actors a = ap seen_at at_a ∙ (seen ∙ sym (ap seen_at got)) in
    let same_read_only = ap (λ (y : LastSeen). y.read_only) seen_here in
    let same_head = ap (λ (y : LastSeen). y.head) seen_here in
    let on : SeesOn l' (GoesBy n) (GoesBy n') (seen_of n.actors) (seen_of n'.actors) w.past.loads w.past.loads a = record {
      read_only = λ c. inl (before OfReadOnly c, same_read_only, refl);
      head = λ c. inl (before OfHead c, same_head, refl);
      read_only_below = let h = sound.guard.safe.read_only_below a in let u = up.read_only in omega (arith, same_read_only, h, u);
      head_below = let h = sound.guard.safe.head_below a in let u = up.head in omega (arith, same_head, h, u);
    } in
    let mine = sound.epochs.slots.holds a d got_e in
    assembled w a x x' words' actions' w.past sound got (length-set n.words 0 v) epochs' up
    (subst AreInOrder back sound.guard.in_order)
    (subst (λ (m : Levels). m.limit ≤ m.closed + n.places.ring) back sound.guard.cover)
    (λ s h i. word_spared n.words 0 v (session_place s own.Epoch) (λ j. omega (arith, j)))
    (λ s i. refl) on
    (subst (λ (m : Levels). (s : ℕ) → GoesBy n s OfReadOnly → m.safe_read_only ≤ (seen_of n.actors s).read_only) back sound.guard.safe.read_only)
    (subst (λ (m : Levels). (s : ℕ) → GoesBy n s OfHead → m.closed ≤ (seen_of n.actors s).head) back sound.guard.safe.head)
    (let h = word_spared n.words 0 v 1 (λ j. omega (arith, j)) in omega (arith, h))
    (λ y o. inl o) (λ all y o. inl o)
    (λ b other c i held. ap found_action (item_spared n.actions slot other (Some action) (λ j.
    i (some_same b a (sym (sound.epochs.slots.holds b (Arms (arm.StoresEpoch other c)) held).1 ∙ (ap sound.epochs.owners j ∙ mine.1))))))
    (λ all other c y arming home.
    let it = same_bearing slot other E c (sym machine ∙ arming) in
    let few : slot < length n.actions = let h = sound.epochs.eight_slots in omega (arith, h, mine.0) in
    let there : action_at actions' slot ≡ Some action = ap found_action (within_item n.actions slot (Some action) few) in
    let is_it : action ≡ y = some_same action y (sym there ∙ (ap (action_at actions') it.0 ∙ home)) in
    rw (← it.1) (rw (← is_it) (known_now l' (GoesBy n') (seen_of n'.actors) w.past.loads E action (stored_same l l' action back stored)
    (λ s. sound.epochs.epochs.loads_below s OfReadOnly) (λ s. sound.epochs.epochs.loads_below s OfHead))))
    (λ addr u.
    let f = sound.guard.fresh a addr (ap undecided_at got ∙ (sym undecided ∙ u)) in
    fresh_on l l' (GoesBy n) (GoesBy n') (seen_of n.actors) (seen_of n'.actors) a addr up (forth OfReadOnly f.counts) same_read_only f)
    (λ addr u. steady ∙ sound.steady a addr x got (sym undecided ∙ u))
    (subst (λ (m : Levels). Knows n.shape m (Awake n' a x'.machine) x'.machine x'.undecided x'.work) back (knows (Awake n' a x'.machine)))
  where
    levels_there : (words : List ℕ) (u : ℕ) → levels_of (slice_set words 0 u) ≡ levels_of words
    levels_there words u = rw (word_spared words 0 u 9 (λ i. omega (arith, i)), word_spared words 0 u 8 (λ i. omega (arith, i)), word_spared words 0 u 7 (λ i. omega (arith, i)), word_spared words 0 u 6 (λ i. omega (arith, i)), word_spared words 0 u 5 (λ i. omega (arith, i)), word_spared words 0 u 4 (λ i. omega (arith, i)), word_spared words 0 u 3 (λ i. omega (arith, i))) refl
