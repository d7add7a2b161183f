-- The steps that the engine makes over an honest device go on with every life.
use Rattle.std.proofs.Common.{sym, subst, ℕ, Bool, List, [], ◌∷◌}
use Rattle.fkv_core.specs.Lives.{LeadsOn}
use Rattle.fkv_disk.specs.Kinds.{Foretold, Kind}
use Rattle.law_refine.specs.Below.fkv_world.World.{Event, Now}
use Rattle.law_opening.specs.Lives.Made.{AllMade, IsMade}
use Rattle.law_opening.specs.Lives.Steps.{AllLeadOn, Step, device_behind, now_behind}

module _ {D : Type 0} (honest : D → Type 0) (seen : D → List ℕ) (may_leave : D → List ℕ → Type 0) (failed : D → ℕ) (refuses : D → ℕ → Bool) (expects : D → List Kind → Foretold) (n : Now) (device : D) (is_honest : honest device) where
  still_honest : (steps : List (Step D)) → AllMade honest seen may_leave failed refuses expects n device steps → honest (device_behind device steps)
  still_honest [] made = is_honest
  still_honest (step ∷ before) made = made.0.stays.0 (still_honest before made.1)

  one_leads : (at : Now) (here : D) (step : Step D) → honest here → IsMade honest seen may_leave failed refuses expects at here step
      → LeadsOn at step.now step.event step.told (seen here) (seen step.device) (may_leave here) (may_leave step.device)
  one_leads at here step claim made =
      subst (λ (event : Event). LeadsOn at step.now event step.told (seen here) (seen step.device) (may_leave here) (may_leave step.device)) (sym made.took) (made.its.life claim)

  pub all_lead_on : (steps : List (Step D)) → AllMade honest seen may_leave failed refuses expects n device steps → AllLeadOn seen may_leave n device steps
  all_lead_on [] made = tt
  all_lead_on (step ∷ before) made =
      (one_leads (now_behind n before) (device_behind device before) step (still_honest before made.1) made.0, all_lead_on before made.1)
