-- What is armed behind one step of an actor was armed before it, or was about to be.
use Rattle.std.proofs.Common.{◌≡◌, ◌⊎◌, inl, inr, ℕ, ◌≤◌, List, [], ◌∷◌, ◌++◌, refl, arith, sym, subst, Bool, true, false}
use Rattle.std.specs.Prelude.{Option, Some, None, slice_get, if◌then◌else◌}
use Rattle.fkv_plane.specs.declared.actions.Action.{Action}
use Rattle.fkv_plane.specs.Plane.{action_at}
use Rattle.fkv_epoch.specs.declared.arming.Arming.TheVariants as arm
use Rattle.fkv_epoch.specs.EpochWorld.{Armed, Arms, EpochMachine, armed_by, armed_with, epoch_of}
use Rattle.fkv_epoch.specs.EpochWorld as epochs
use Rattle.fkv_epoch.specs.Once.{Among}
use Rattle.law_refine.specs.Below.fkv_flush.GuardWorld.{Actor, Begins, GuardEvent, GuardNow, GuardWorld, Moves, Publishes, Resumes, Sees, drives_epochs, epoch_now, guard_happens, guard_run, is_none, machine_moved, sight_moved}
use Rattle.law_refine.proofs.Below.fkv_flush.Shown.{IsAboutToArm, IsSound, about_to_arm_on, events_calm, machine_at, run_sound}
use Rattle.law_refine.proofs.Below.law_world.OfGuarded.OneStep.{IsQuiet, IsStepOf}

among_either : {X : Type 0} (y : X) (xs ys : List X) → Among y (xs ++ ys) → Among y xs ⊎ Among y ys
among_either y [] ys o = inr o
among_either y (x ∷ xs) ys (inl e) = inl (inl e)
among_either y (x ∷ xs) ys (inr o) = elim (among_either y xs ys o) [ inl i ↦ inl (inr i) | inr i ↦ inr i ]

-- who arms it now was about to
pub record ArmedNow (n : GuardNow) (y : Armed) : Type 0 where
  pub by : ℕ
  pub about : IsAboutToArm n by y.slot y.epoch y.action

module _ (w : GuardWorld) (y : Armed) where
  arms_with : (a slot c : ℕ) (found : Option Action) → slice_get (epoch_now w.now).actors a ≡ Some (Arms (arm.StoresEpoch slot c)) → action_at w.now.actions slot ≡ found → Among y (armed_with slot c found) → ArmedNow w.now y
  arms_with a slot c None got home o = absurd o
  arms_with a slot c (Some action) got home (inl e) = subst (λ (x : Armed). ArmedNow w.now x) (sym e) (record { by = a; about = (got, home) })
  arms_with a slot c (Some action) got home (inr o) = absurd o

  arms_now : (a : ℕ) (d : EpochMachine) → slice_get (epoch_now w.now).actors a ≡ Some d → Among y (armed_by (epoch_now w.now) d) → ArmedNow w.now y
  arms_now a (Arms (arm.StoresEpoch slot c)) got o = arms_with a slot c (action_at w.now.actions slot) got refl o
  arms_now a d got o = absurd o

  moved_armed : (a : ℕ) (found : Option Actor) → slice_get w.now.actors a ≡ found → Among y (machine_moved w.now a w.past found).armed → Among y w.past.armed ⊎ ArmedNow w.now y
  moved_armed a None got among = inl among
  moved_armed a (Some x) got among = by_test (drives_epochs x.work) refl among
    where
      by_test : (b : Bool) → drives_epochs x.work ≡ b → Among y (if b then epochs.past_moved (epoch_now w.now) a w.past (Some x.machine) else w.past).armed → Among y w.past.armed ⊎ ArmedNow w.now y
      by_test true e o = elim (among_either y (armed_by (epoch_now w.now) x.machine) w.past.armed o) [
        | inl now ↦ inr (arms_now a x.machine (machine_at w.now.actors a x got) now)
        | inr old ↦ inl old
      ]
      by_test false e o = inl o

  seen_armed : (found : Option Actor) (a : ℕ) (sight : epochs.Sight) → Among y (sight_moved w.now a sight w.past found).armed → Among y w.past.armed
  seen_armed None a sight among = among
  seen_armed (Some x) a sight among = by_test (is_none x.undecided) among
    where
      by_test : (b : Bool) → Among y (if b then epochs.past_seen (epoch_now w.now) a sight w.past (Some x.machine) else w.past).armed → Among y w.past.armed
      by_test true o = o
      by_test false o = o

  event_armed : (event : GuardEvent) → Among y (guard_happens w event).past.armed → Among y w.past.armed ⊎ ArmedNow w.now y
  unfolding guard_happens
  event_armed (Moves a) among = moved_armed a (slice_get w.now.actors a) refl among
  event_armed (Sees a sight) among = inl (seen_armed (slice_get w.now.actors a) a sight among)
  event_armed event among = inl among

  quiet_armed : (event : GuardEvent) → IsQuiet event → Among y (guard_happens w event).past.armed → Among y w.past.armed
  unfolding guard_happens
  quiet_armed (Begins a task) quiet among = among
  quiet_armed (Resumes a) quiet among = among
  quiet_armed (Publishes a) quiet among = among
  quiet_armed event quiet among = absurd quiet

pub step_armed : (P : GuardEvent → Type 0) (a : ℕ) (w : GuardWorld) (events : List GuardEvent) (y : Armed) → IsStepOf P a events → Among y (guard_run w events).past.armed → Among y w.past.armed ⊎ ArmedNow w.now y
unfolding guard_run
step_armed P a w [] y step among = inl among
step_armed P a w (event ∷ before) y step among = elim step.0.place [
  | inl quiet ↦ step_armed P a w before y step.1 (quiet_armed (guard_run w before) y event quiet among)
  | inr first ↦ event_armed w y event (subst (λ (b : List GuardEvent). Among y (guard_happens (guard_run w b) event).past.armed) first.0 among)
]

-- who is about to arm was so before, or arms at an epoch that stood then or later
pub about_since : (w : GuardWorld) (events : List GuardEvent) (b slot c : ℕ) (action : Action) → IsSound w → IsAboutToArm (guard_run w events).now b slot c action → IsAboutToArm w.now b slot c action ⊎ (epoch_of w.now.words ≤ c)
unfolding guard_run
about_since w [] b slot c action sound about = inl about
about_since w (event ∷ before) b slot c action sound about = elim (about_to_arm_on (guard_run w before) event b slot c action (run_sound w before sound) about) [
  | inl was ↦ about_since w before b slot c action sound was
  | inr same ↦ inr (let calm = events_calm w before sound in let up = calm.epoch in omega (arith, up, same))
]
