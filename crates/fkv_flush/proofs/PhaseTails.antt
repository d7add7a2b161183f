-- The tail that each session found with the phase: at every moment, and through every event.
use Rattle.std.proofs.Common.{◌≡◌, ℕ, ◌<◌, ◌≤◌, ◌⊎◌, List, [], ◌∷◌, refl, sym, ap, subst, arith, inl, inr, ◌∙◌, Bool, true, false}
use Rattle.std.specs.Prelude.{Option, Some, None, ⊤, slice_get, ◌==◌, if◌then◌else◌}
use Rattle.std.proofs.lemmas.Bool.Decides.{nat_tests}
use Rattle.std.proofs.lemmas.Bool.{cases_lt}
use Rattle.fkv_base.specs.Limits.{drain_slots}
use Rattle.fkv_base.specs.declared.shapes.Shape.{Shape}
use Rattle.fkv_plane.specs.declared.places.Places.{Places}
use Rattle.fkv_base.specs.declared.numbers.Addr.{Addr}
use Rattle.fkv_plane.specs.declared.actions.Action.{Action}
use Rattle.fkv_plane.specs.declared.actions.Action.TheVariants as act
use Rattle.fkv_plane.specs.Plane.{found_action}
use Rattle.fkv_epoch.specs.declared.protecting.Protecting.TheVariants as protect
use Rattle.fkv_epoch.specs.declared.refreshing.Refreshing.TheVariants as refresh
use Rattle.fkv_epoch.specs.declared.claiming.Claiming.TheVariants as claim
use Rattle.fkv_epoch.specs.EpochWorld.{EpochMachine, Protects, Refreshes, Claims, Sight, OfPhase, OfReadOnly, OfHead, Loads, Armed, EpochPast, epoch_of, safe_of, sight_of, with_load, loaded, in_force_by, armed_by}
use Rattle.fkv_epoch.specs.Once.{Among, InForceSinceRaise}
use Rattle.fkv_epoch.proofs.Shown.{none_some, no_load_ahead, in_force_is_no_later, safe_is_in_force}
use Rattle.fkv_flush.specs.GuardLevels.{levels_of}
use Rattle.fkv_flush.specs.GuardSeen.{IsStored}
use Rattle.fkv_flush.specs.GuardPhase.{PhaseTails, with_tail, tail_loaded, tails_in_force, tails_moved, tails_seen, tails_after, phase_tails, KeepsTails}
use Rattle.fkv_flush.specs.GuardWorld.{Actor, GuardWorld, GuardEvent, Moves, Sees, drives_epochs, is_none, epoch_now, epoch_world, past_after, machine_moved, sight_moved, guard_happens, guard_run}
use Rattle.fkv_flush.specs.Guarded.{undecided_at, undecided_of, IsOpened, opening}
use Rattle.fkv_flush.proofs.GuardSound.{IsSound, machine_at}
use Rattle.fkv_flush.proofs.GuardWorks.{truth}
use Rattle.fkv_flush.proofs.GuardLaw.{run_sound, replicate_item}
use Rattle.fkv_flush.proofs.GuardRuns.{run_is_safe}
use Rattle.fkv_flush.proofs.Calm.{event_calm}
use Rattle.fkv_flush.proofs.GuardMachines.{Arming, arms_it, split, steady_sees}
use Rattle.fkv_flush.proofs.Undecided.{undecided_on, none_undecided}
use Rattle.fkv_flush.proofs.Armings.{IsAboutToArm, about_to_arm_on}
use Rattle.fkv_flush.proofs.SafeRaise.{safe_stays}

-- whoever has loaded the phase above epoch c found the tail at or above what an action raises the safe read-only offset to
abbrev pub Found : (ℕ → ℕ) → (ℕ → ℕ) → ℕ → Action → Type 0
Found loads tails c (act.SafeReadOnly addr) = (session : ℕ) → c < loads session → addr.0 ≤ tails session
Found loads tails c action = ⊤

abbrev pub phase_loads : (ℕ → Loads) → ℕ → ℕ
phase_loads loads session = (loads session).phase

-- so it is of the last loads, and of those in force
pub record HaveFound (past : EpochPast) (t : PhaseTails) (c : ℕ) (action : Action) : Type 0 where
  pub last : Found (phase_loads past.loads) t.last c action
  pub in_force : Found (phase_loads past.in_force) t.in_force c action

-- one session's last load of the phase is now, or is as it was
abbrev pub LoadsOn : ℕ → ℕ → ℕ → ℕ → ℕ → ℕ → Type 0
LoadsOn E tail load found load' found' = ((load' ≡ E) × (found' ≡ tail)) ⊎ ((load' ≡ load) × (found' ≡ found))

loads_on : (loads : ℕ → Loads) (tails : ℕ → ℕ) (a : ℕ) (sight : Option Sight) (E tail s : ℕ) → LoadsOn E tail (phase_loads loads s) (tails s) (phase_loads (loaded loads a sight E) s) (tail_loaded tails a sight tail s)
loads_on loads tails a sight E tail s = either (s == a)
  where
    by : (sight : Option Sight) → LoadsOn E tail (phase_loads loads s) (tails s) ((with_load (loads s) sight E).phase) (with_tail (tails s) sight tail)
    by None = inr (refl, refl)
    by (Some OfPhase) = inl (refl, refl)
    by (Some OfReadOnly) = inr (refl, refl)
    by (Some OfHead) = inr (refl, refl)

    either : (b : Bool) → LoadsOn E tail (phase_loads loads s) (tails s) ((if b then with_load (loads s) sight E else loads s).phase) (if b then with_tail (tails s) sight tail else tails s)
    either true = by sight
    either false = inr (refl, refl)

-- The load in force is now, and so is the last; or it is as it was; or it is the last so far.
abbrev pub ForceOn : ℕ → ℕ → ℕ → ℕ → ℕ → ℕ → ℕ → ℕ → ℕ → Type 0
ForceOn E tail last found_last load found load' found' found_last' = ((load' ≡ E) × (found' ≡ tail) × (found_last' ≡ tail)) ⊎ (((load' ≡ load) × (found' ≡ found)) ⊎ ((load' ≡ last) × (found' ≡ found_last)))

-- one event, for one session
pub record TailsOn (E tail : ℕ) (past past' : EpochPast) (t t' : PhaseTails) (s : ℕ) : Type 0 where
  pub last : LoadsOn E tail (phase_loads past.loads s) (t.last s) (phase_loads past'.loads s) (t'.last s)
  pub in_force : ForceOn E tail (phase_loads past.loads s) (t.last s) (phase_loads past.in_force s) (t.in_force s) (phase_loads past'.in_force s) (t'.in_force s) (t'.last s)

-- a value that is in force as soon as it is loaded
both_on : (past : EpochPast) (t : PhaseTails) (a : ℕ) (sight : Option Sight) (E tail s : ℕ)
    → ForceOn E tail (phase_loads past.loads s) (t.last s) (phase_loads past.in_force s) (t.in_force s) (phase_loads (loaded past.in_force a sight E) s) (tail_loaded t.in_force a sight tail s) (tail_loaded t.last a sight tail s)
both_on past t a sight E tail s = either (s == a)
  where
    by : (sight : Option Sight)
        → ForceOn E tail (phase_loads past.loads s) (t.last s) (phase_loads past.in_force s) (t.in_force s) ((with_load (past.in_force s) sight E).phase) (with_tail (t.in_force s) sight tail) (with_tail (t.last s) sight tail)
    by None = inr (inl (refl, refl))
    by (Some OfPhase) = inl (refl, refl, refl)
    by (Some OfReadOnly) = inr (inl (refl, refl))
    by (Some OfHead) = inr (inl (refl, refl))

    either : (b : Bool)
        → ForceOn E tail (phase_loads past.loads s) (t.last s) (phase_loads past.in_force s) (t.in_force s) ((if b then with_load (past.in_force s) sight E else past.in_force s).phase) (if b then with_tail (t.in_force s) sight tail else t.in_force s) (if b then with_tail (t.last s) sight tail else t.last s)
    either true = by sight
    either false = inr (inl (refl, refl))

force_on : (past : EpochPast) (t : PhaseTails) (a E tail : ℕ) (d : EpochMachine) (s : ℕ)
    → ForceOn E tail (phase_loads past.loads s) (t.last s) (phase_loads past.in_force s) (t.in_force s) (phase_loads (in_force_by past a E d) s) (tails_in_force t a tail d s) (tail_loaded t.last a (sight_of d) tail s)
force_on past t a E tail (Protects protect.LoadsPhase) s = both_on past t a (Some OfPhase) E tail s
force_on past t a E tail (Protects (protect.LoadsReadOnly phase)) s = both_on past t a (Some OfReadOnly) E tail s
force_on past t a E tail (Protects (protect.LoadsHead phase read_only)) s = both_on past t a (Some OfHead) E tail s
force_on past t a E tail (Protects step) s = inr (inl (refl, none_loaded (s == a)))
  where
    none_loaded : (b : Bool) → (if b then t.in_force s else t.in_force s) ≡ t.in_force s
    none_loaded true = refl
    none_loaded false = refl
force_on past t a E tail (Refreshes (refresh.StoresEpoch epoch)) s = either (s == a)
  where
    either : (b : Bool)
        → ForceOn E tail (phase_loads past.loads s) (t.last s) (phase_loads past.in_force s) (t.in_force s) ((if b then past.loads s else past.in_force s).phase) (if b then t.last s else t.in_force s) (tail_loaded t.last a None tail s)
    either true = inr (inr (refl, refl))
    either false = inr (inl (refl, refl))
force_on past t a E tail d s = inr (inl (refl, refl))

same_tails : (E tail : ℕ) (past : EpochPast) (t : PhaseTails) (s : ℕ) → TailsOn E tail past past t t s
same_tails E tail past t s = record { last = inr (refl, refl); in_force = inr (inl (refl, refl)) }

-- each event
pub tails_on : (w : GuardWorld) (event : GuardEvent) (t : PhaseTails) (s : ℕ) → TailsOn (epoch_of w.now.words) (levels_of w.now.words).tail w.past (guard_happens w event).past t (tails_after w.now event t) s
unfolding guard_happens
tails_on w event t s = by event
  where
    moved : (a : ℕ) (found : Option Actor) → TailsOn (epoch_of w.now.words) (levels_of w.now.words).tail w.past (machine_moved w.now a w.past found) t (tails_moved w.now a t found) s
    moved a None = same_tails (epoch_of w.now.words) (levels_of w.now.words).tail w.past t s
    moved a (Some x) = elim (truth (drives_epochs x.work)) [
      | inl e ↦ rw e (record {
        last = loads_on w.past.loads t.last a (sight_of x.machine) (epoch_of w.now.words) (levels_of w.now.words).tail s;
        in_force = force_on w.past t a (epoch_of w.now.words) (levels_of w.now.words).tail x.machine s;
      })
      | inr e ↦ rw e (same_tails (epoch_of w.now.words) (levels_of w.now.words).tail w.past t s)
    ]

    seen : (a : ℕ) (sight : Sight) (found : Option Actor) → TailsOn (epoch_of w.now.words) (levels_of w.now.words).tail w.past (sight_moved w.now a sight w.past found) t (tails_seen w.now a sight t found) s
    seen a sight None = same_tails (epoch_of w.now.words) (levels_of w.now.words).tail w.past t s
    seen a sight (Some x) = elim (truth (is_none x.undecided)) [
      | inl e ↦ rw e (record {
        last = loads_on w.past.loads t.last a (Some sight) (epoch_of w.now.words) (levels_of w.now.words).tail s;
        in_force = both_on w.past t a (Some sight) (epoch_of w.now.words) (levels_of w.now.words).tail s;
      })
      | inr e ↦ rw e (same_tails (epoch_of w.now.words) (levels_of w.now.words).tail w.past t s)
    ]

    by : (event : GuardEvent) → TailsOn (epoch_of w.now.words) (levels_of w.now.words).tail w.past (past_after w.now event w.past) t (tails_after w.now event t) s
    by (Moves a) = moved a (slice_get w.now.actors a)
    by (Sees a sight) = seen a sight (slice_get w.now.actors a)
    by event = same_tails (epoch_of w.now.words) (levels_of w.now.words).tail w.past t s

-- what an action raises the safe read-only offset to is below the tail
abbrev IsReached : ℕ → Action → Type 0
IsReached tail (act.SafeReadOnly addr) = addr.0 ≤ tail
IsReached tail action = ⊤

-- who has found that still has
found_on : (E tail : ℕ) (past past' : EpochPast) (t t' : PhaseTails) (c : ℕ) (action : Action) → ((s : ℕ) → TailsOn E tail past past' t t' s) → IsReached tail action → HaveFound past t c action → HaveFound past' t' c action
found_on E tail past past' t t' c (act.SafeReadOnly addr) on reached old = record {
  last = λ s later. elim ((on s).last) [
    | inl e ↦ omega (arith, e.1, reached)
    | inr e ↦ let h = old.last s (omega (arith, later, e.0)) in omega (arith, h, e.1)
  ];
  in_force = λ s later. elim ((on s).in_force) [
    | inl e ↦ omega (arith, e.1, reached)
    | inr o ↦ elim o [
      | inl e ↦ let h = old.in_force s (omega (arith, later, e.0)) in omega (arith, h, e.1)
      | inr e ↦ let h = old.last s (omega (arith, later, e.0)) in omega (arith, h, e.1)
    ]
  ];
}
found_on E tail past past' t t' c (act.Close addr) on reached old = record { last = tt; in_force = tt }
found_on E tail past past' t t' c (act.Phase phase version) on reached old = record { last = tt; in_force = tt }

-- nobody has loaded the phase above the epoch
found_now : (E tail : ℕ) (past past' : EpochPast) (t t' : PhaseTails) (action : Action) → ((s : ℕ) → TailsOn E tail past past' t t' s) → ((s : ℕ) → phase_loads past.loads s ≤ E) → ((s : ℕ) → phase_loads past.in_force s ≤ E) → HaveFound past' t' E action
found_now E tail past past' t t' (act.SafeReadOnly addr) on last in_force = record {
  last = λ s later. elim ((on s).last) [
    | inl e ↦ absurd (omega (arith, e.0, later))
    | inr e ↦ let h = last s in absurd (omega (arith, h, e.0, later))
  ];
  in_force = λ s later. elim ((on s).in_force) [
    | inl e ↦ absurd (omega (arith, e.0, later))
    | inr o ↦ elim o [
      | inl e ↦ let h = in_force s in absurd (omega (arith, h, e.0, later))
      | inr e ↦ let h = last s in absurd (omega (arith, h, e.0, later))
    ]
  ];
}
found_now E tail past past' t t' (act.Close addr) on last in_force = record { last = tt; in_force = tt }
found_now E tail past past' t t' (act.Phase phase version) on last in_force = record { last = tt; in_force = tt }

-- the action that raised the safe read-only offset to where it is, or further
pub record RaisedBy (w : GuardWorld) (t : PhaseTails) : Type 0 where
  pub c : ℕ
  pub addr : Addr
  pub below : (levels_of w.now.words).safe_read_only ≤ addr.0
  pub reached : addr.0 ≤ (levels_of w.now.words).tail
  pub is_safe : c ≤ safe_of w.now.words
  pub found : HaveFound w.past t c (act.SafeReadOnly addr)

pub record TailSound (w : GuardWorld) (t : PhaseTails) : Type 0 where
  pub undecided : (s addr : ℕ) → undecided_of w.now.actors s ≡ Some addr → t.last s ≤ addr
  pub in_force : (s : ℕ) → t.in_force s ≤ t.last s
  pub last : (s : ℕ) → t.last s ≤ (levels_of w.now.words).tail
  pub armed : (y : Armed) → Among y w.past.armed → HaveFound w.past t y.epoch y.action
  pub about_to_arm : (b slot c : ℕ) (action : Action) → IsAboutToArm w.now b slot c action → HaveFound w.past t c action
  pub safe : ((s : ℕ) → (levels_of w.now.words).safe_read_only ≤ t.in_force s) ⊎ RaisedBy w t

is_reached : (w : GuardWorld) (action : Action) → IsSound w → IsStored (levels_of w.now.words) action → IsReached (levels_of w.now.words).tail action
is_reached w (act.SafeReadOnly addr) sound stored = let h = sound.guard.in_order.read_only_below in omega (arith, h, stored)
is_reached w (act.Close addr) sound stored = tt
is_reached w (act.Phase phase version) sound stored = tt

-- an action that is armed was in its slot, and its actor about to arm it
record ArmedNow (w : GuardWorld) (y : Armed) : Type 0 where
  b : ℕ
  slot : ℕ
  about_to_arm : IsAboutToArm w.now b slot y.epoch y.action

armed_on : (w : GuardWorld) (event : GuardEvent) (y : Armed) → Among y (guard_happens w event).past.armed → Among y w.past.armed ⊎ ArmedNow w y
unfolding guard_happens
armed_on w event y = by event
  where
    moved : (a : ℕ) (found : Option Actor) → slice_get w.now.actors a ≡ found → Among y (machine_moved w.now a w.past found).armed → Among y w.past.armed ⊎ ArmedNow w y
    moved a None got among = inl among
    moved a (Some x) got among = elim (truth (drives_epochs x.work)) [
      | inl e ↦ elim (split y (armed_by (epoch_now w.now) x.machine) w.past.armed (rw e at among)) [
        | inl i ↦
            let z : Arming w.now.actions x.machine y = arms_it (epoch_now w.now) x.machine y i in
            inr (subst (ArmedNow w) (sym z.is_it) (record { b = a; slot = z.slot; about_to_arm = (machine_at w.now.actors a x got ∙ ap Some z.machine, z.at_home) }))
        | inr o ↦ inl o
      ]
      | inr e ↦ inl (rw e at among)
    ]

    seen : (a : ℕ) (sight : Sight) (found : Option Actor) → Among y (sight_moved w.now a sight w.past found).armed → Among y w.past.armed
    seen a sight None among = among
    seen a sight (Some x) among = elim (truth (is_none x.undecided)) [ inl e ↦ rw e at among | inr e ↦ rw e at among ]

    by : (event : GuardEvent) → Among y (past_after w.now event w.past).armed → Among y w.past.armed ⊎ ArmedNow w y
    by (Moves a) = moved a (slice_get w.now.actors a) refl
    by (Sees a sight) = λ among. inl (seen a sight (slice_get w.now.actors a) among)
    by event = λ among. inl among

-- who has an undecided record loads no phase
undecided_keeps : (w : GuardWorld) (event : GuardEvent) (t : PhaseTails) (s addr : ℕ) → IsSound w → undecided_of w.now.actors s ≡ Some addr → (tails_after w.now event t).last s ≡ t.last s
undecided_keeps w event t s addr sound u = by event
  where
    mine : (a : ℕ) (x : Actor) → slice_get w.now.actors a ≡ Some x → (s == a) ≡ true → x.undecided ≡ Some addr
    mine a x got e = let same : s ≡ a = grind (arith, nat_tests, e) in sym (ap undecided_at got) ∙ (sym (ap (undecided_of w.now.actors) same) ∙ u)

    none_loaded : (b : Bool) (sight : Option Sight) (found : ℕ) → (b ≡ true → sight ≡ None) → (if b then with_tail (t.last s) sight found else t.last s) ≡ t.last s
    none_loaded true sight found none = ap (λ (z : Option Sight). with_tail (t.last s) z found) (none refl)
    none_loaded false sight found none = refl

    moved : (a : ℕ) (found : Option Actor) → slice_get w.now.actors a ≡ found → (tails_moved w.now a t found).last s ≡ t.last s
    moved a None got = refl
    moved a (Some x) got = elim (truth (drives_epochs x.work)) [
      | inl e ↦ rw e (none_loaded (s == a) (sight_of x.machine) (levels_of w.now.words).tail (λ f. steady_sees x.machine (sound.steady a addr x got (mine a x got f))))
      | inr e ↦ rw e refl
    ]

    seen : (a : ℕ) (sight : Sight) (found : Option Actor) → slice_get w.now.actors a ≡ found → (tails_seen w.now a sight t found).last s ≡ t.last s
    seen a sight None got = refl
    seen a sight (Some x) got = elim (truth (is_none x.undecided)) [
      | inl e ↦ rw e (none_loaded (s == a) (Some sight) (levels_of w.now.words).tail (λ f. let some : is_none x.undecided ≡ false = ap is_none (mine a x got f) in cc))
      | inr e ↦ rw e refl
    ]

    by : (event : GuardEvent) → (tails_after w.now event t).last s ≡ t.last s
    by (Moves a) = moved a (slice_get w.now.actors a) refl
    by (Sees a sight) = seen a sight (slice_get w.now.actors a) refl
    by event = refl

pub happens_tails : (w : GuardWorld) (event : GuardEvent) (t : PhaseTails) → IsSound w → TailSound w t → TailSound (guard_happens w event) (tails_after w.now event t)
happens_tails w event t sound old =
    let w' : GuardWorld = guard_happens w event in
    let t' : PhaseTails = tails_after w.now event t in
    let E : ℕ = epoch_of w.now.words in
    let tail : ℕ = (levels_of w.now.words).tail in
    let on : (s : ℕ) → TailsOn E tail w.past w'.past t t' s = tails_on w event t in
    let calm = event_calm w event sound in
    let up = calm.offsets.tail in
    let last : (s : ℕ) → t'.last s ≤ tail = λ s. let h = old.last s in elim ((on s).last) [ inl e ↦ omega (arith, e.1) | inr e ↦ omega (arith, h, e.1) ] in
    let later : (s : ℕ) → t.last s ≤ t'.last s = λ s. let h = old.last s in elim ((on s).last) [ inl e ↦ omega (arith, e.1, h) | inr e ↦ omega (arith, e.1) ] in
    let raised : (s : ℕ) → t.in_force s ≤ t'.in_force s = λ s.
    let h = old.last s in let g = old.in_force s in elim ((on s).in_force) [ inl e ↦ omega (arith, e.1, h, g) | inr o ↦ elim o [ inl e ↦ omega (arith, e.1) | inr e ↦ omega (arith, e.1, g) ] ] in
    let goes_on : (c : ℕ) (action : Action) → IsStored (levels_of w.now.words) action → HaveFound w.past t c action → HaveFound w'.past t' c action = λ c action stored found.
    found_on E tail w.past w'.past t t' c action on (is_reached w action sound stored) found in
    let still : (levels_of w'.now.words).safe_read_only ≤ (levels_of w.now.words).safe_read_only → ((s : ℕ) → (levels_of w'.now.words).safe_read_only ≤ t'.in_force s) ⊎ RaisedBy w' t' = λ low. elim old.safe [
      | inl all ↦ inl (λ s. let h = all s in let g = raised s in omega (arith, low, h, g))
      | inr r ↦ inr (record {
        c = r.c;
        addr = r.addr;
        below = let h = r.below in omega (arith, low, h);
        reached = let h = r.reached in omega (arith, h, up);
        is_safe = let h = r.is_safe in let g = calm.safe_epoch in omega (arith, h, g);
        found = found_on E tail w.past w'.past t t' r.c (act.SafeReadOnly r.addr) on r.reached r.found;
      })
    ] in
    let loads_below : (s : ℕ) → phase_loads w.past.loads s ≤ E = λ s. no_load_ahead (epoch_world w) s OfPhase sound.epochs in
    let force_below : (s : ℕ) → phase_loads w.past.in_force s ≤ E = λ s. let h = in_force_is_no_later (epoch_world w) s OfPhase sound.epochs in let g = loads_below s in omega (arith, h, g) in
    record {
      undecided = λ s addr u. elim (undecided_on w event s addr u) [
        | inl o ↦ let h = old.undecided s addr o in let k = undecided_keeps w event t s addr sound o in omega (arith, h, k)
        | inr e ↦ let h = last s in omega (arith, h, e)
      ];
      in_force = λ s.
          let h = old.in_force s in
          let l = later s in
          elim ((on s).in_force) [ inl e ↦ omega (arith, e.1, e.2) | inr o ↦ elim o [ inl e ↦ omega (arith, e.1, h, l) | inr e ↦ omega (arith, e.1, l) ] ];
      last = λ s. let h = last s in omega (arith, h, up);
      armed = λ y among. elim (armed_on w event y among) [
        | inl o ↦ goes_on y.epoch y.action (sound.guard.known y o).stored (old.armed y o)
        | inr n ↦ goes_on y.epoch y.action (sound.arming n.b n.slot y.epoch y.action n.about_to_arm.0 n.about_to_arm.1).stored (old.about_to_arm n.b n.slot y.epoch y.action n.about_to_arm)
      ];
      about_to_arm = λ b slot c action h. elim (about_to_arm_on w event b slot c action sound h) [
        | inl o ↦ goes_on c action (sound.arming b slot c action o.0 o.1).stored (old.about_to_arm b slot c action o)
        | inr e ↦ rw e (found_now E tail w.past w'.past t t' action on loads_below force_below)
      ];
      safe = elim (safe_stays w event sound) [
        | inl same ↦ still (omega (arith, same))
        | inr r ↦ elim (cases_lt r.addr.0 (levels_of w.now.words).safe_read_only) [
          | inl low ↦ let e = r.raised in still (omega (arith, e, low))
          | inr high ↦
              let k = run_is_safe w r.actor r.slot r.c r.safe (act.SafeReadOnly r.addr) r.x sound r.its_actor r.its_machine in
              let among = (sound.epochs.slots.holds r.actor (Claims (claim.Runs r.slot r.c r.safe (act.SafeReadOnly r.addr))) (machine_at w.now.actors r.actor r.x r.its_actor ∙ ap Some r.its_machine)).4 in
              let reached : r.addr.0 ≤ tail = is_reached w (act.SafeReadOnly r.addr) sound k.1.stored in
              inr (record {
                c = r.c;
                addr = r.addr;
                below = let e = r.raised in omega (arith, e, high);
                reached = omega (arith, reached, up);
                is_safe = let h = k.0 in let g = calm.safe_epoch in omega (arith, h, g);
                found = found_on E tail w.past w'.past t t' r.c (act.SafeReadOnly r.addr) on reached (old.armed (record { slot = r.slot; epoch = r.c; action = act.SafeReadOnly r.addr }) among);
              })
        ]
      ];
    }

-- a whole run
pub run_tails : (first : GuardWorld) (events : List GuardEvent) → IsSound first → TailSound first (phase_tails first []) → TailSound (guard_run first events) (phase_tails first events)
unfolding guard_run phase_tails
run_tails first [] sound was = was
run_tails first (event ∷ before) sound was = happens_tails (guard_run first before) event (phase_tails first before) (run_sound first before sound) (run_tails first before sound was)

-- so each session that goes by its phase has found the tail above the safe read-only offset
pub keeps_tails : (w : GuardWorld) (t : PhaseTails) → IsSound w → TailSound w t → KeepsTails w t
unfolding InForceSinceRaise
keeps_tails w t sound tails = record {
  undecided = tails.undecided;
  safe = λ s goes. elim tails.safe [
    | inl all ↦ all s
    | inr r ↦
        let later = safe_is_in_force (epoch_world w) r.c sound.epochs r.is_safe s OfPhase goes in
        let h = r.found.in_force s later in
        let g = r.below in omega (arith, h, g)
  ];
  in_force = tails.in_force;
  last = tails.last;
}

-- the store as it is opened
pub opening_tails : (shape : Shape) (places : Places) (actors : ℕ) (words : List ℕ) (start : ℕ) → IsOpened shape places actors words start → TailSound (opening shape places actors words start) (phase_tails (opening shape places actors words start) [])
unfolding phase_tails
opening_tails shape places actors words start o =
    let safe = o.safe_read_only in
    let tail = o.tail in
    record {
      undecided = λ s addr u. none_undecided shape places actors words start s addr u;
      in_force = λ s. omega arith;
      last = λ s. omega arith;
      armed = λ y among. absurd among;
      about_to_arm = λ b slot c action h. none_there slot action (slice_get (opening shape places actors words start).now.actions slot) refl h.1;
      safe = inl (λ s. omega (arith, safe, tail));
    }
  where
    none_there : {X : Type 0} (slot : ℕ) (action : Action) (found : Option (Option Action)) → slice_get (opening shape places actors words start).now.actions slot ≡ found → found_action found ≡ Some action → X
    none_there slot action None got e = cc
    none_there {X} slot action (Some its) got e = let none = replicate_item drain_slots slot None its got in none_some {Y = X} action (sym none ∙ e)
