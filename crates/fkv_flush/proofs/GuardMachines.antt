-- A step of a machine of the epochs that runs no action.
use Rattle.std.proofs.Common.{subst, ◌≡◌, ◌≢◌, ℕ, ◌+◌, ◌<◌, ◌≤◌, ◌⊎◌, List, [], ◌∷◌, ◌++◌, length, map, refl, arith, sym, ap, inl, inr, ◌∙◌, true, false, eq-eqb}
use Rattle.std.specs.Prelude.{Option, Some, None, slice_get, slice_set, ◌==◌}
use Rattle.std.proofs.lemmas.List.{map-set, length-set}
use Rattle.std.proofs.lemmas.Bool.Decides.{nat_tests}
use Rattle.fkv_plane.specs.declared.actions.Action.{Action}
use Rattle.fkv_plane.specs.Plane.{action_at}
use Rattle.fkv_plane.specs.declared.asks.Ask.{Ask}
use Rattle.fkv_plane.specs.declared.asks.Ask.TheVariants.{Load, Store, Swap, Cas, Add, Max, Put, Take, Done}
use Rattle.fkv_plane.specs.Asked.{word_at, words_after, reply_to}
use Rattle.fkv_plane.specs.Places.{session_place}
use Rattle.fkv_plane.specs.declared.places.SessionWord.TheVariants as own
use Rattle.fkv_epoch.specs.declared.protecting.Protecting.TheVariants as protect
use Rattle.fkv_epoch.specs.declared.refreshing.Refreshing.TheVariants as refresh
use Rattle.fkv_epoch.specs.declared.leaving.Leaving.TheVariants as leave
use Rattle.fkv_epoch.specs.declared.claiming.Claiming.{Claiming}
use Rattle.fkv_epoch.specs.declared.claiming.Claiming.TheVariants as claim
use Rattle.fkv_epoch.specs.declared.raising.Raising.{Raising}
use Rattle.fkv_epoch.specs.declared.raising.Raising.TheVariants as raise
use Rattle.fkv_epoch.specs.declared.arming.Arming.TheVariants as arm
use Rattle.fkv_epoch.specs.Protecting.{protect_ask, protect_next}
use Rattle.fkv_epoch.specs.Refreshing.{refresh_ask, refresh_next}
use Rattle.fkv_epoch.specs.Leaving.{leave_ask, leave_next}
use Rattle.fkv_epoch.specs.Scanning.{scan_ask}
use Rattle.fkv_epoch.specs.Claiming.{claim_ask, claim_next}
use Rattle.fkv_epoch.specs.Raising.{raise_ask}
use Rattle.fkv_epoch.specs.Arming.{arm_ask}
use Rattle.fkv_epoch.specs.EpochWorld.{EpochMachine, Protects, Refreshes, Leaves, Scans, Claims, Raises, HasRaised, Arms, Sight, OfPhase, OfReadOnly, OfHead, Armed, Claimed, Loads, Moves, machine_step, claimed, received, raised, near, put_near, safe_of, epoch_of, own_epoch, loaded, with_load, sight_of, past_moved, claimed_by, armed_by, armed_with}
use Rattle.fkv_epoch.specs.EpochWorld as epochs
use Rattle.fkv_epoch.specs.Once.{Among, goes_by, claims_found}
use Rattle.fkv_epoch.proofs.Shown.{item_written, some_same, moved_sound, claim_is_safe}
use Rattle.fkv_epoch.proofs.Shown as epochs_sound
use Rattle.fkv_flush.specs.GuardLevels.{Levels, levels_of, AreInOrder, Rises}
use Rattle.fkv_flush.specs.GuardSeen.{LastSeen}
use Rattle.fkv_flush.specs.GuardWorld.{Actor, GuardNow, GuardWorld, epoch_now, epoch_world, seen_with}
use Rattle.fkv_flush.specs.Guarded.{is_steady, seen_at, seen_of, undecided_at, GoesBy}
use Rattle.fkv_flush.proofs.Guard.{SeesOn, knows_on, fresh_on}
use Rattle.fkv_flush.proofs.GuardEpochs.{runs, stepped_spared, offsets_spared, others_epoch, safe_rises}
use Rattle.fkv_flush.proofs.GuardCounts.{writes_own, elsewhere, stepped_counts}
use Rattle.fkv_flush.proofs.GuardHomes.{homes_spared, arms_none}
use Rattle.fkv_flush.proofs.GuardSound.{Knows, IsSound, Awake, machine_of, machine_at, after, assembled}
use Rattle.fkv_flush.proofs.GuardSteps.{rises_same}

pub loaded_here : (loads : ℕ → Loads) (a : ℕ) (sight : Option Sight) (epoch : ℕ) → loaded loads a sight epoch a ≡ with_load (loads a) sight epoch
loaded_here loads a sight epoch = rw (eq-eqb a a refl) refl

pub loaded_there : (loads : ℕ → Loads) (a : ℕ) (sight : Option Sight) (epoch s : ℕ) → s ≢ a → loaded loads a sight epoch s ≡ loads s
loaded_there loads a sight epoch s n = let e : (s == a) ≡ false = grind (arith, nat_tests) in rw e refl

-- a load is of this value, or leaves it as it was seen before
pub sees_read_only : (sight : Option Sight) → (sight ≡ Some OfReadOnly) ⊎ (((seen : LastSeen) (words : List ℕ) → (seen_with seen sight words).read_only ≡ seen.read_only) × ((l : Loads) (e : ℕ) → (with_load l sight e).read_only ≡ l.read_only))
sees_read_only None = inr (λ seen words. refl, λ l e. refl)
sees_read_only (Some OfPhase) = inr (λ seen words. refl, λ l e. refl)
sees_read_only (Some OfReadOnly) = inl refl
sees_read_only (Some OfHead) = inr (λ seen words. refl, λ l e. refl)

pub sees_head : (sight : Option Sight) → (sight ≡ Some OfHead) ⊎ (((seen : LastSeen) (words : List ℕ) → (seen_with seen sight words).head ≡ seen.head) × ((l : Loads) (e : ℕ) → (with_load l sight e).head ≡ l.head))
sees_head None = inr (λ seen words. refl, λ l e. refl)
sees_head (Some OfPhase) = inr (λ seen words. refl, λ l e. refl)
sees_head (Some OfReadOnly) = inr (λ seen words. refl, λ l e. refl)
sees_head (Some OfHead) = inl refl

-- offsets are no words of the epochs
pub machine_levels : (w : epochs.EpochWorld) (a : ℕ) (d : EpochMachine) → epochs_sound.IsSound w → slice_get w.now.actors a ≡ Some d → runs d ≡ false → levels_of (machine_step w.now.sessions a w.now.words w.now.actions d).words ≡ levels_of w.now.words
machine_levels w a d sound got quiet =
    let at : (k : ℕ) → 2 ≤ k → k < 16 → word_at (machine_step w.now.sessions a w.now.words w.now.actions d).words k ≡ word_at w.now.words k = λ k low high. offsets_spared w a k d sound got quiet low high in
    rw (at 9 (omega arith) (omega arith), at 8 (omega arith) (omega arith), at 7 (omega arith) (omega arith), at 6 (omega arith) (omega arith), at 5 (omega arith) (omega arith), at 4 (omega arith) (omega arith), at 3 (omega arith) (omega arith)) refl

changed_length : {A : Type 0} (words : List ℕ) (ask : Ask A) → length (words_after words ask) ≡ length words
changed_length words (Load place) = length-set words place _
changed_length words (Store place new) = length-set words place _
changed_length words (Swap place new) = length-set words place _
changed_length words (Cas place old new) = length-set words place _
changed_length words (Add place k) = length-set words place _
changed_length words (Max place k) = length-set words place _
changed_length words (Put slot action) = refl
changed_length words (Take slot) = refl
changed_length words (Done answer) = refl

pub claimed_same : (words : List ℕ) (actions : List (Option Action)) (step : Claiming) → (claimed words actions step).words ≡ words
claimed_same words actions (claim.Receives slot epoch safe) = found (action_at actions slot)
  where
    found : (x : Option Action) → (received words actions slot epoch safe x).words ≡ words
    found None = refl
    found (Some x) = refl
claimed_same words actions step = refl

pub machine_length : (S a : ℕ) (words : List ℕ) (actions : List (Option Action)) (d : EpochMachine) → length (machine_step S a words actions d).words ≡ length words
machine_length S a words actions (Protects step) = changed_length words (protect_ask a step)
machine_length S a words actions (Refreshes step) = changed_length words (refresh_ask a step)
machine_length S a words actions (Leaves step) = changed_length words (leave_ask a step)
machine_length S a words actions (Scans step) = changed_length words (scan_ask step)
machine_length S a words actions (Claims step) = ap length (claimed_same (words_after words (claim_ask step)) actions (claim_next step (reply_to words (claim_ask step)))) ∙ changed_length words (claim_ask step)
machine_length S a words actions (Raises step) = changed_length words (raise_ask step)
machine_length S a words actions (HasRaised slot epoch) = refl
machine_length S a words actions (Arms step) = changed_length words (arm_ask step)

-- a list that two make
pub split : {X : Type 0} (y : X) (xs ys : List X) → Among y (xs ++ ys) → Among y xs ⊎ Among y ys
split y [] ys o = inr o
split y (x ∷ xs) ys (inl e) = inl (inl e)
split y (x ∷ xs) ys (inr o) = elim (split y xs ys o) [ inl i ↦ inl (inr i) | inr i ↦ inr i ]

-- what a step arms
pub record Arming (actions : List (Option Action)) (d : EpochMachine) (y : Armed) : Type 0 where
  pub slot : ℕ
  pub epoch : ℕ
  pub action : Action
  pub machine : d ≡ Arms (arm.StoresEpoch slot epoch)
  pub at_home : action_at actions slot ≡ Some action
  pub is_it : y ≡ record { slot = slot; epoch = epoch; action = action }

arms_that : (actions : List (Option Action)) (slot c : ℕ) (y : Armed) (found : Option Action) → action_at actions slot ≡ found → Among y (armed_with slot c found) → Arming actions (Arms (arm.StoresEpoch slot c)) y
arms_that actions slot c y None home o = absurd o
arms_that actions slot c y (Some action) home (inl e) = record { slot = slot; epoch = c; action = action; machine = refl; at_home = home; is_it = e }
arms_that actions slot c y (Some action) home (inr o) = absurd o

pub arms_it : (n : epochs.EpochNow) (d : EpochMachine) (y : Armed) → Among y (armed_by n d) → Arming n.actions d y
arms_it n (Arms (arm.StoresEpoch slot c)) y o = arms_that n.actions slot c y (action_at n.actions slot) refl o
arms_it n d y o = absurd o

raised_steady : (step : Raising) (reply : ℕ) → is_steady (raised step reply) ≡ true
raised_steady (raise.RaisesEpoch slot) reply = refl
raised_steady step reply = refl

claimed_steady : (words : List ℕ) (actions : List (Option Action)) (step : Claiming) → is_steady (claimed words actions step).machine ≡ true
claimed_steady words actions (claim.Receives slot epoch safe) = found (action_at actions slot)
  where
    found : (x : Option Action) → is_steady (received words actions slot epoch safe x).machine ≡ true
    found None = refl
    found (Some x) = refl
claimed_steady words actions step = refl

-- a steady machine stays so, loads nothing that its session goes by, and leaves the session's epoch word
pub steady_acts : (S a : ℕ) (words : List ℕ) (actions : List (Option Action)) (d : EpochMachine) → is_steady d ≡ true → is_steady (machine_step S a words actions d).machine ≡ true
unfolding protect_next refresh_next leave_next
steady_acts S a words actions (Protects protect.AtRest) e = refl
steady_acts S a words actions (Refreshes refresh.AtRest) e = refl
steady_acts S a words actions (Leaves leave.AtRest) e = refl
steady_acts S a words actions (Claims step) e = claimed_steady (words_after words (claim_ask step)) actions (claim_next step (reply_to words (claim_ask step)))
steady_acts S a words actions (Raises step) e = raised_steady step (reply_to words (raise_ask step))
steady_acts S a words actions (Scans step) e = refl
steady_acts S a words actions (HasRaised slot epoch) e = refl
steady_acts S a words actions (Arms step) e = refl
steady_acts S a words actions d e = cc

pub steady_sees : (d : EpochMachine) → is_steady d ≡ true → sight_of d ≡ None
steady_sees (Protects protect.AtRest) e = refl
steady_sees (Refreshes refresh.AtRest) e = refl
steady_sees (Leaves leave.AtRest) e = refl
steady_sees (Claims step) e = refl
steady_sees (Raises step) e = refl
steady_sees (Scans step) e = refl
steady_sees (HasRaised slot epoch) e = refl
steady_sees (Arms step) e = refl
steady_sees d e = cc

pub steady_own : (d : EpochMachine) → is_steady d ≡ true → writes_own d ≡ false
steady_own (Protects protect.AtRest) e = refl
steady_own (Refreshes refresh.AtRest) e = refl
steady_own (Leaves leave.AtRest) e = refl
steady_own (Claims step) e = refl
steady_own (Raises step) e = refl
steady_own (Scans step) e = refl
steady_own (HasRaised slot epoch) e = refl
steady_own (Arms step) e = refl
steady_own d e = cc

pub steady_goes : (d : EpochMachine) (sight : Sight) → is_steady d ≡ true → goes_by sight d ≡ true
steady_goes (Protects protect.AtRest) sight e = refl
steady_goes (Refreshes step) sight e = refl
steady_goes (Leaves step) sight e = refl
steady_goes (Claims step) sight e = refl
steady_goes (Raises step) sight e = refl
steady_goes (Scans step) sight e = refl
steady_goes (HasRaised slot epoch) sight e = refl
steady_goes (Arms step) sight e = refl
steady_goes d sight e = cc

-- The step: the machine goes on by its own table, the session has seen what it loads, and the actor's other machine turns to this.
pub epoch_step_sound : (w : GuardWorld) (a : ℕ) (x x' : Actor) → IsSound w → slice_get w.now.actors a ≡ Some x → runs x.machine ≡ false
    → (let here = machine_step w.now.places.sessions a w.now.words w.now.actions x.machine in
    x'.machine ≡ here.machine → x'.seen ≡ seen_with x.seen (sight_of x.machine) w.now.words
    → ((addr : ℕ) → x'.undecided ≡ Some addr → x.undecided ≡ Some addr)
    → ((A : Type 0) → Knows w.now.shape (levels_of w.now.words) A x'.machine x'.undecided x'.work)
    → IsSound (after w a x' here.words here.actions (past_moved (epoch_now w.now) a w.past (Some x.machine))))
epoch_step_sound w a x x' sound got quiet machine seen undecided knows =
    let n : GuardNow = w.now in
    let S : ℕ = n.places.sessions in
    let e : epochs.EpochWorld = epoch_world w in
    let d : EpochMachine = x.machine in
    let here = machine_step S a n.words n.actions d in
    let past' : epochs.EpochPast = past_moved (epoch_now n) a w.past (Some d) in
    let w' : GuardWorld = after w a x' here.words here.actions past' in
    let n' : GuardNow = w'.now in
    let l : Levels = levels_of n.words in
    let l' : Levels = levels_of here.words in
    let got_e : slice_get e.now.actors a ≡ Some d = machine_at n.actors a x got in
    let same : l' ≡ l = machine_levels e a d sound.epochs got_e quiet in
    let back : l ≡ l' = sym same in
    let up : Rises l l' = rises_same l l' same in
    let at_a : slice_get n'.actors a ≡ Some x' = item_written n.actors a x x' got in
    let at_a' : slice_get (map machine_of n'.actors) a ≡ Some here.machine = machine_at n'.actors a x' at_a ∙ ap Some machine in
    let swap : map machine_of (slice_set n.actors a x') ≡ slice_set (map machine_of n.actors) a here.machine = map-set machine_of n.actors a x' ∙ ap (slice_set (map machine_of n.actors) a) machine in
    let epochs' : epochs_sound.IsSound (epoch_world w') = rw swap (moved_sound e a (Some d) got_e sound.epochs) in
    let safer : safe_of n.words ≤ safe_of here.words = safe_rises e a d sound.epochs got_e in
    let seen_before : seen_of n.actors a ≡ x.seen = ap seen_at got in
    let seen_here : seen_of n'.actors a ≡ seen_with x.seen (sight_of d) n.words = ap seen_at at_a ∙ seen in
    let loads_here : past'.loads a ≡ with_load (w.past.loads a) (sight_of d) (epoch_of n.words) = loaded_here w.past.loads a (sight_of d) (epoch_of n.words) in
    let before : (sight : Sight) → GoesBy n' a sight → (sight_of d ≡ Some sight) ⊎ GoesBy n a sight = λ sight c.
    let its : c.machine ≡ here.machine = some_same c.machine here.machine (sym c.its_machine ∙ at_a') in
    elim (stepped_counts e a d sight sound.epochs got_e c.is_protected (sym (ap (goes_by sight) its) ∙ c.has_loaded)) [
      | inl i ↦ inl i
      | inr i ↦ inr (record { is_session = c.is_session; is_protected = i.1; machine = d; its_machine = got_e; has_loaded = i.0 })
    ] in
    let read_only_loaded : sight_of d ≡ Some OfReadOnly → (seen_of n'.actors a).read_only ≡ l'.read_only = λ i.
    ap (λ (y : LastSeen). y.read_only) seen_here ∙ (ap (λ (z : Option Sight). (seen_with x.seen z n.words).read_only) i ∙ ap (λ (m : Levels). m.read_only) back) in
    let head_loaded : sight_of d ≡ Some OfHead → (seen_of n'.actors a).head ≡ l'.head = λ i.
    ap (λ (y : LastSeen). y.head) seen_here ∙ (ap (λ (z : Option Sight). (seen_with x.seen z n.words).head) i ∙ ap (λ (m : Levels). m.head) back) in
    let on : SeesOn l' (GoesBy n) (GoesBy n') (seen_of n.actors) (seen_of n'.actors) w.past.loads past'.loads a = record {
      read_only = λ c. elim (sees_read_only (sight_of d)) [
        | inl i ↦ inr (read_only_loaded i)
        | inr still ↦ elim (before OfReadOnly c) [
          | inl i ↦ inr (read_only_loaded i)
          | inr g ↦ inl (g, ap (λ (y : LastSeen). y.read_only) seen_here ∙ (still.0 x.seen n.words ∙ sym (ap (λ (y : LastSeen). y.read_only) seen_before)), ap (λ (y : Loads). y.read_only) loads_here ∙ still.1 (w.past.loads a) (epoch_of n.words))
        ]
      ];
      head = λ c. elim (sees_head (sight_of d)) [
        | inl i ↦ inr (head_loaded i)
        | inr still ↦ elim (before OfHead c) [
          | inl i ↦ inr (head_loaded i)
          | inr g ↦ inl (g, ap (λ (y : LastSeen). y.head) seen_here ∙ (still.0 x.seen n.words ∙ sym (ap (λ (y : LastSeen). y.head) seen_before)), ap (λ (y : Loads). y.head) loads_here ∙ still.1 (w.past.loads a) (epoch_of n.words))
        ]
      ];
      read_only_below = elim (sees_read_only (sight_of d)) [
        | inl i ↦ let h = read_only_loaded i in omega (arith, h)
        | inr still ↦
            let h = ap (λ (y : LastSeen). y.read_only) seen_here ∙ (still.0 x.seen n.words ∙ sym (ap (λ (y : LastSeen). y.read_only) seen_before)) in
            let b = sound.guard.safe.read_only_below a in let u = up.read_only in omega (arith, h, b, u)
      ];
      head_below = elim (sees_head (sight_of d)) [
        | inl i ↦ let h = head_loaded i in omega (arith, h)
        | inr still ↦
            let h = ap (λ (y : LastSeen). y.head) seen_here ∙ (still.0 x.seen n.words ∙ sym (ap (λ (y : LastSeen). y.head) seen_before)) in
            let b = sound.guard.safe.head_below a in let u = up.head in omega (arith, h, b, u)
      ];
    } in
    assembled w a x x' here.words here.actions past' sound got (machine_length S a n.words n.actions d) epochs' up
    (subst AreInOrder back sound.guard.in_order)
    (subst (λ (m : Levels). m.limit ≤ m.closed + n.places.ring) back sound.guard.cover)
    (λ s h i. others_epoch e a s d sound.epochs got_e i)
    (λ s i. loaded_there w.past.loads a (sight_of d) (epoch_of n.words) s i)
    on
    (subst (λ (m : Levels). (s : ℕ) → GoesBy n s OfReadOnly → m.safe_read_only ≤ (seen_of n.actors s).read_only) back sound.guard.safe.read_only)
    (subst (λ (m : Levels). (s : ℕ) → GoesBy n s OfHead → m.closed ≤ (seen_of n.actors s).head) back sound.guard.safe.head)
    safer
    (λ y o. elim (split y (claimed_by (epoch_now n) a d) w.past.claims o) [
      | inl i ↦ inr (let h = claim_is_safe e (Moves a) y sound.epochs (subst (λ (z : Option EpochMachine). Among y (claims_found e.now a z)) (sym got_e) i) in omega (arith, h, safer))
      | inr i ↦ inl i
    ])
    (λ all y o. elim (split y (armed_by (epoch_now n) d) w.past.armed o) [
      | inl i ↦
          let z : Arming n.actions d y = arms_it (epoch_now n) d y i in
          inr (rw z.is_it (knows_on l l' (GoesBy n) (GoesBy n') (seen_of n.actors) (seen_of n'.actors) w.past.loads past'.loads z.epoch z.action up all
          (sound.arming a z.slot z.epoch z.action (got_e ∙ ap Some z.machine) z.at_home)))
      | inr i ↦ inl i
    ])
    (λ b slot c i its. homes_spared e a b d slot c sound.epochs got_e its)
    (λ all slot c action its home. arms_none e a slot c d sound.epochs got_e (sym machine ∙ its))
    (λ addr u.
    let old = undecided addr u in
    let steady : is_steady d ≡ true = sound.steady a addr x got old in
    let none : sight_of d ≡ None = steady_sees d steady in
    let f = sound.guard.fresh a addr (ap undecided_at got ∙ old) in
    let own_same = stepped_spared S a n.words n.actions d (session_place a own.Epoch) (elsewhere e a d sound.epochs got_e (steady_own d steady)) in
    let same_seen : (seen_of n'.actors a).read_only ≡ (seen_of n.actors a).read_only = ap (λ (y : LastSeen). y.read_only) (seen_here ∙ (ap (λ (z : Option Sight). seen_with x.seen z n.words) none ∙ sym seen_before)) in
    fresh_on l l' (GoesBy n) (GoesBy n') (seen_of n.actors) (seen_of n'.actors) a addr up
    (record {
      is_session = f.counts.is_session;
      is_protected = let h = f.counts.is_protected in omega (arith, h, own_same);
      machine = here.machine;
      its_machine = at_a';
      has_loaded = steady_goes here.machine OfReadOnly (steady_acts S a n.words n.actions d steady);
    })
    same_seen f)
    (λ addr u. ap is_steady machine ∙ steady_acts S a n.words n.actions d (sound.steady a addr x got (undecided addr u)))
    (subst (λ (m : Levels). Knows n.shape m (Awake n' a x'.machine) x'.machine x'.undecided x'.work) back (knows (Awake n' a x'.machine)))
