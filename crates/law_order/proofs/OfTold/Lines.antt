-- Lines that are told leave the log as it is, and what machines do tells none.
use Rattle.std.proofs.Common.{◌≡◌, ℕ, refl, ap, Bool, true, false, List, [], ◌∷◌, ◌++◌}
use Rattle.std.specs.Prelude.{map, if◌then◌else◌, ◌==◌}
use Rattle.law_log.specs.Ghosts.{Ghosts, GhostEvent, Tells, FindsEntry, TakesValue, Reserves, Publishes, Drops, Changes, Fixes, ghosts_after, ghost_run}
use Rattle.law_log.specs.Trace.{TraceLine}
use Rattle.law_commit.specs.Below.fkv_world.Runs.{World, run}
use Rattle.law_commit.specs.Below.fkv_world.World.{Event}
use Rattle.law_order.specs.Known.Answered.{acted}
use Rattle.law_commit.specs.Below.law_refine.Events.GhostEvents.{fixed_ghosts, own_ghosts, safe_at}
use Rattle.law_commit.proofs.Below.law_refine.OfEvents.Own.{AreOwn, own_own}

pub told_log : (home : ℕ → ℕ) (g : Ghosts) (lines : List TraceLine) → (ghost_run home g (map Tells lines)).log ≡ g.log
unfolding ghost_run ghosts_after
told_log home g [] = refl
told_log home g (line ∷ earlier) = told_log home g earlier

pub told_trace : (home : ℕ → ℕ) (g : Ghosts) (lines : List TraceLine) → (ghost_run home g (map Tells lines)).trace ≡ lines ++ g.trace
unfolding ghost_run ghosts_after
told_trace home g [] = refl
told_trace home g (line ∷ earlier) = ap (λ (x : List TraceLine). line ∷ x) (told_trace home g earlier)

own_trace : (home : ℕ → ℕ) (g : Ghosts) (events : List GhostEvent) → AreOwn events → (ghost_run home g events).trace ≡ g.trace
unfolding ghost_run ghosts_after
own_trace home g [] own = refl
own_trace home g (FindsEntry reader ∷ before) own = own_trace home g before own.1
own_trace home g (TakesValue reader ∷ before) own = own_trace home g before own.1
own_trace home g (Reserves a entry cell ∷ before) own = own_trace home g before own.1
own_trace home g (Publishes a ∷ before) own = own_trace home g before own.1
own_trace home g (Drops a ∷ before) own = own_trace home g before own.1
own_trace home g (Changes a entry ∷ before) own = own_trace home g before own.1
own_trace home g (Tells line ∷ before) own = absurd own.0
own_trace home g (Fixes a ∷ before) own = absurd own.0

fixed_trace : (home : ℕ → ℕ) (g : Ghosts) (was safe : ℕ) (events : List GhostEvent) → AreOwn events → (ghost_run home g (fixed_ghosts was safe ++ events)).trace ≡ g.trace
unfolding ghost_run ghosts_after
fixed_trace home g was safe events own = by_test (safe == was)
  where
    by_test : (c : Bool) → (ghost_run home g ((if c then [] else Fixes safe ∷ []) ++ events)).trace ≡ g.trace
    by_test true = own_trace home g events own
    by_test false = own_trace home g events own

-- so is it of all that an event does before it tells
pub acted_trace : (home : ℕ → ℕ) (g : Ghosts) (opening : World) (before : List Event) (event : Event) → (ghost_run home g (acted opening before event)).trace ≡ g.trace
acted_trace home g opening before event =
    fixed_trace home g (safe_at (run opening before).now) (safe_at (run opening (event ∷ before)).now) (own_ghosts (run opening before) event) (own_own (run opening before) event)
