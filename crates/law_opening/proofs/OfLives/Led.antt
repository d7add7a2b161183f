-- A life is led on by each step of the engine's world.
use Rattle.std.proofs.Common.{◌≡◌, refl, ℕ, List, [], ◌∷◌}
use Rattle.fkv_disk.specs.Device.{IsAfter, LeavesOnly}
use Rattle.fkv_disk.proofs.Shown.{is_opened}
use Rattle.fkv_core.specs.Openings.{beginning}
use Rattle.law_refine.specs.Below.fkv_world.Opened.{IsOpenedWorld}
use Rattle.law_refine.specs.Below.fkv_world.Runs.{World, run}
use Rattle.law_refine.specs.Below.fkv_world.World.{Now}
use Rattle.law_opening.specs.Lives.Steps.{Step, AllLeadOn, AllLedOn, device_behind, events_of, now_behind}

module _ {D : Type 0} (seen : D → List ℕ) (may_leave : D → List ℕ → Type 0) (n : Now) (device : D) where
  abbrev opening : World
  opening = beginning n (seen device)

  -- The life shows where the steps stand.
  pub record Stands (steps : List (Step D)) : Type 0 where
    pub shows : (run opening (events_of steps)).now ≡ now_behind n steps
    pub gives : IsAfter (run opening (events_of steps)).past.opened (run opening (events_of steps)).past.calls (seen (device_behind device steps)) (may_leave (device_behind device steps))
    pub led : AllLedOn seen may_leave opening steps

  module _ (opened : IsOpenedWorld opening) (only : LeavesOnly (seen device) (may_leave device)) where
    pub stands : (steps : List (Step D)) → AllLeadOn seen may_leave n device steps → Stands steps
    unfolding run
    stands [] lead = record { shows = refl; gives = is_opened (seen device) (may_leave device) only; led = tt }
    stands (step ∷ before) lead =
        let was : Stands before = stands before lead.1 in
        let its = lead.0 opening (events_of before) opened was.shows was.gives in
        record { shows = its.shows; gives = its.device; led = (its, was.led) }

    pub all_led_on : (steps : List (Step D)) → AllLeadOn seen may_leave n device steps → AllLedOn seen may_leave opening steps
    all_led_on steps lead = (stands steps lead).led
