-- The step that runs an action: safe read-only follows the read-only offset, or closed the head, no further than all have seen.
use Rattle.std.proofs.Common.{subst, ◌≡◌, ℕ, ◌+◌, ◌<◌, ◌≤◌, List, map, refl, arith, sym, ap, inl, ◌∙◌, max}
use Rattle.std.specs.Prelude.{Some, slice_get, slice_set}
use Rattle.std.proofs.lemmas.List.{map-set, length-set}
use Rattle.fkv_plane.specs.declared.actions.Action.{Action}
use Rattle.fkv_plane.specs.declared.actions.Action.TheVariants as act
use Rattle.fkv_plane.specs.Asked.{words_after}
use Rattle.fkv_plane.specs.Places.{session_place}
use Rattle.fkv_plane.specs.declared.places.SessionWord.TheVariants as own
use Rattle.fkv_epoch.specs.declared.claiming.Claiming.{Claiming}
use Rattle.fkv_epoch.specs.declared.claiming.Claiming.TheVariants as claim
use Rattle.fkv_epoch.specs.declared.arming.Arming.TheVariants as arm
use Rattle.fkv_epoch.specs.Claiming.{claim_ask, claim_next, run_of, phase_stored}
use Rattle.fkv_epoch.specs.EpochWorld.{EpochMachine, Claims, Arms, Sight, OfReadOnly, OfHead, Armed, Claimed, safe_of, own_epoch, machine_step, past_moved}
use Rattle.fkv_epoch.specs.EpochWorld as epochs
use Rattle.fkv_epoch.specs.Once.{SeenSinceRaise, goes_by, load_of}
use Rattle.fkv_epoch.proofs.Shown.{word_spared, moved_sound, no_load, safe_is_seen}
use Rattle.fkv_epoch.proofs.Shown as epochs_sound
use Rattle.fkv_flush.specs.GuardLevels.{Levels, levels_of, AreInOrder, Rises}
use Rattle.fkv_flush.specs.GuardWorld.{Actor, GuardNow, GuardWorld, epoch_now, epoch_world}
use Rattle.fkv_flush.specs.Guarded.{is_steady, seen_of, GoesBy}
use Rattle.fkv_flush.proofs.Guard.{Known}
use Rattle.fkv_flush.proofs.GuardSound.{Knows, IsSound, Awake, machine_of, machine_at, after}
use Rattle.fkv_flush.proofs.GuardSteps.{worded_past, rises_same}
use Rattle.fkv_flush.proofs.GuardOffsets.{safe_read_only_written, closed_written}

-- one shared word below the sessions' is written
ran : (w : GuardWorld) (a : ℕ) (x x' : Actor) (slot c z p v : ℕ) (action : Action) (l' : Levels) → IsSound w → slice_get w.now.actors a ≡ Some x → x.machine ≡ Claims (claim.Runs slot c z action)
    → words_after w.now.words (run_of action) ≡ slice_set w.now.words p v → 2 ≤ p → p < 10
    → levels_of (slice_set w.now.words p v) ≡ l' → Rises (levels_of w.now.words) l' → AreInOrder l' → l'.limit ≤ l'.closed + w.now.places.ring
    → ((s : ℕ) → GoesBy w.now s OfReadOnly → l'.safe_read_only ≤ (seen_of w.now.actors s).read_only)
    → ((s : ℕ) → GoesBy w.now s OfHead → l'.closed ≤ (seen_of w.now.actors s).head)
    → l'.tail ≡ (levels_of w.now.words).tail
    → x'.machine ≡ Claims (claim.FreesSlot slot z) → x'.seen ≡ x.seen → ((addr : ℕ) → x'.undecided ≡ Some addr → x.undecided ≡ Some addr)
    → ((A : Type 0) → Knows w.now.shape l' A x'.machine x'.undecided x'.work)
    → IsSound (after w a x' (words_after w.now.words (run_of action)) w.now.actions (past_moved (epoch_now w.now) a w.past (Some (Claims (claim.Runs slot c z action)))))
unfolding claim_ask claim_next
ran w a x x' slot c z p v action l' sound got its writes low high same up order cover low_read_only low_head same_tail machine seen undecided knows =
    let n : GuardNow = w.now in
    let e : epochs.EpochWorld = epoch_world w in
    let d : EpochMachine = Claims (claim.Runs slot c z action) in
    let d' : EpochMachine = Claims (claim.FreesSlot slot z) in
    let words' : List ℕ = slice_set n.words p v in
    let past' : epochs.EpochPast = past_moved (epoch_now n) a w.past (Some d) in
    let got_e : slice_get e.now.actors a ≡ Some d = machine_at n.actors a x got ∙ ap Some its in
    let swap : map machine_of (slice_set n.actors a x') ≡ slice_set (map machine_of n.actors) a d' = map-set machine_of n.actors a x' ∙ ap (slice_set (map machine_of n.actors) a) machine in
    let epochs' : epochs_sound.IsSound (epoch_world (after w a x' (words_after n.words (run_of action)) n.actions past')) = rw swap (moved_sound e a (Some d) got_e sound.epochs) in
    let back = sym same in
    rw writes
    (worded_past w a x x' words' past' sound got (no_load w.past.loads a (epochs.epoch_of n.words)) refl refl (length-set n.words p v)
    (rw writes at epochs')
    (subst (Rises (levels_of n.words)) back up)
    (subst AreInOrder back order)
    (subst (λ (m : Levels). m.limit ≤ m.closed + n.places.ring) back cover)
    (λ s h. word_spared n.words p v (session_place s own.Epoch) (λ i. omega (arith, i, high)))
    (subst (λ (m : Levels). (s : ℕ) → GoesBy n s OfReadOnly → m.safe_read_only ≤ (seen_of n.actors s).read_only) back low_read_only)
    (subst (λ (m : Levels). (s : ℕ) → GoesBy n s OfHead → m.closed ≤ (seen_of n.actors s).head) back low_head)
    (word_spared n.words p v 1 (λ i. omega (arith, i, low)))
    (λ sight. ap (goes_by sight) machine ∙ sym (ap (goes_by sight) its))
    (ap is_steady machine ∙ sym (ap is_steady its))
    (λ other k i. claims_are_none (claim.FreesSlot slot z) other k (sym machine ∙ i))
    seen
    (λ addr u. inl (undecided addr u))
    (subst (λ (m : Levels). Knows n.shape m (Awake n a x.machine) x'.machine x'.undecided x'.work) back (knows (Awake n a x.machine))))
  where
    claims_are_none : (step : Claiming) (other k : ℕ) {X : Type 0} → Claims step ≡ Arms (arm.StoresEpoch other k) → X
    claims_are_none step other k i = cc

-- the action that is run was armed at an epoch which is safe now
pub run_is_safe : (w : GuardWorld) (a slot c z : ℕ) (action : Action) (x : Actor) → IsSound w → slice_get w.now.actors a ≡ Some x → x.machine ≡ Claims (claim.Runs slot c z action)
    → (c ≤ safe_of w.now.words) × Known (levels_of w.now.words) (GoesBy w.now) (seen_of w.now.actors) w.past.loads c action
run_is_safe w a slot c z action x sound got its =
    let h = sound.epochs.slots.holds a (Claims (claim.Runs slot c z action)) (machine_at w.now.actors a x got ∙ ap Some its) in
    (sound.claims_safe (record { actor = a; slot = slot; epoch = c }) h.5, sound.guard.known (record { slot = slot; epoch = c; action = action }) h.4)

-- so all who go by a value loaded it later
pub loaded_later : (w : GuardWorld) (c s : ℕ) (sight : Sight) → IsSound w → c ≤ safe_of w.now.words → GoesBy w.now s sight → c < load_of (w.past.loads s) sight
unfolding SeenSinceRaise
loaded_later w c s sight sound safe goes = safe_is_seen (epoch_world w) c sound.epochs safe s sight goes

pub ran_sound : (w : GuardWorld) (a : ℕ) (x x' : Actor) (slot c z : ℕ) (action : Action) → IsSound w → slice_get w.now.actors a ≡ Some x → x.machine ≡ Claims (claim.Runs slot c z action)
    → x'.machine ≡ Claims (claim.FreesSlot slot z) → x'.seen ≡ x.seen → ((addr : ℕ) → x'.undecided ≡ Some addr → x.undecided ≡ Some addr)
    → ((l : Levels) (A : Type 0) → Knows w.now.shape l A x'.machine x'.undecided x'.work)
    → IsSound (after w a x' (words_after w.now.words (run_of action)) w.now.actions (past_moved (epoch_now w.now) a w.past (Some (Claims (claim.Runs slot c z action)))))
ran_sound w a x x' slot c z (act.SafeReadOnly addr) sound got its machine seen undecided knows =
    let l : Levels = levels_of w.now.words in
    let k = run_is_safe w a slot c z (act.SafeReadOnly addr) x sound got its in
    let v : ℕ = max l.safe_read_only addr.0 in
    let l' : Levels = record l { safe_read_only = v } in
    let o = sound.guard.in_order in
    let stored : addr.0 ≤ l.read_only = k.1.stored in
    ran w a x x' slot c z 6 v (act.SafeReadOnly addr) l' sound got its refl (omega arith) (omega arith)
    (safe_read_only_written w.now.words v (let h = sound.epochs.enough_words in omega (arith, h)))
    (record { closed = omega arith; head = omega arith; flushed = omega arith; safe_read_only = omega arith; read_only = omega arith; tail = omega arith; limit = omega arith })
    (record { closed_below = o.closed_below; head_below = o.head_below; flushed_below = let h = o.flushed_below in omega (arith, h); safe_below = let h = o.safe_below in omega (arith, h, stored); read_only_below = o.read_only_below; tail_below = o.tail_below })
    sound.guard.cover
    (λ s g. let h = sound.guard.safe.read_only s g in let i = k.1.have_seen s g (loaded_later w c s OfReadOnly sound k.0 g) in omega (arith, h, i))
    sound.guard.safe.head refl machine seen undecided (knows l')
ran_sound w a x x' slot c z (act.Close addr) sound got its machine seen undecided knows =
    let l : Levels = levels_of w.now.words in
    let k = run_is_safe w a slot c z (act.Close addr) x sound got its in
    let v : ℕ = max l.closed addr.0 in
    let l' : Levels = record l { closed = v } in
    let o = sound.guard.in_order in
    let stored : addr.0 ≤ l.head = k.1.stored in
    ran w a x x' slot c z 9 v (act.Close addr) l' sound got its refl (omega arith) (omega arith)
    (closed_written w.now.words v (let h = sound.epochs.enough_words in omega (arith, h)))
    (record { closed = omega arith; head = omega arith; flushed = omega arith; safe_read_only = omega arith; read_only = omega arith; tail = omega arith; limit = omega arith })
    (record { closed_below = let h = o.closed_below in omega (arith, h, stored); head_below = o.head_below; flushed_below = o.flushed_below; safe_below = o.safe_below; read_only_below = o.read_only_below; tail_below = o.tail_below })
    (let h = sound.guard.cover in omega (arith, h))
    sound.guard.safe.read_only
    (λ s g. let h = sound.guard.safe.head s g in let i = k.1.have_seen s g (loaded_later w c s OfHead sound k.0 g) in omega (arith, h, i))
    refl machine seen undecided (knows l')
ran_sound w a x x' slot c z (act.Phase phase version) sound got its machine seen undecided knows =
    let l : Levels = levels_of w.now.words in
    ran w a x x' slot c z 2 (phase_stored phase version) (act.Phase phase version) l sound got its refl (omega arith) (omega arith)
    (phase_written w.now.words (phase_stored phase version)) (rises_same l l refl) sound.guard.in_order sound.guard.cover sound.guard.safe.read_only sound.guard.safe.head refl machine seen undecided (knows l)
  where
    phase_written : (words : List ℕ) (u : ℕ) → levels_of (slice_set words 2 u) ≡ levels_of words
    phase_written words u = rw (word_spared words 2 u 9 (λ i. omega (arith, i)), word_spared words 2 u 8 (λ i. omega (arith, i)), word_spared words 2 u 7 (λ i. omega (arith, i)), word_spared words 2 u 6 (λ i. omega (arith, i)), word_spared words 2 u 5 (λ i. omega (arith, i)), word_spared words 2 u 4 (λ i. omega (arith, i)), word_spared words 2 u 3 (λ i. omega (arith, i))) refl
