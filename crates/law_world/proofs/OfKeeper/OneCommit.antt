-- One commit stands by the world's own calls of the device.
use Rattle.std.proofs.Common.{◌≡◌, ℕ, List, ◌∷◌, sym, subst}
use Rattle.fkv_disk.specs.Calls as device
use Rattle.fkv_disk.specs.Calls.{MayLeave}
use Rattle.fkv_keeper.specs.KeeperRun.{KeeperEvent}
use Rattle.fkv_keeper.specs.Keeping.{KeeperState}
use Rattle.fkv_keeper.specs.LastCommits.{slot_place}
use Rattle.fkv_keeper.specs.declared.keepers.Keeping.TheVariants.{Waits, Writes}
use Rattle.fkv_manifest.specs.Kept.{Begins}
use Rattle.law_world.specs.Standing.CallsMade.{calls_made}
use Rattle.law_world.specs.Standing.Opening.{AreNumbersInTurn}
use Rattle.law_world.proofs.OfStanding.Runs.{run_begins}
use Rattle.law_world.specs.Keeper.Lives.{IsLifeTold, keeper_after}
use Rattle.fkv_world.specs.Opened.{IsOpenedWorld}
use Rattle.fkv_world.specs.OwnEvents.{keeper_events}
use Rattle.fkv_world.specs.Runs.{World, run}
use Rattle.fkv_world.specs.World.{Event}
use Rattle.law_world.proofs.OfKeeper.OwnRun.{of_event, to_event}
use Rattle.law_world.proofs.OfKeeper.OwnCalls.{own_calls}

-- what the world's calls may leave the keeper's own may
pub image_left : (opening : World) (events : List Event) (image : List ℕ) → IsOpenedWorld opening → MayLeave opening.past.opened (run opening events).past.calls image
    → MayLeave opening.past.opened (calls_made opening.now.shape opening.now.places opening.now.keeper (keeper_events opening events)) image
image_left opening events image opened left = subst (λ (calls : List device.Call). MayLeave opening.past.opened calls image) (sym (own_calls opening events opened)) left

-- where the writes of a commit begin
pub begins_so : (opening : World) (events : List Event) (event : KeeperEvent) (before : List KeeperEvent) → IsLifeTold opening events → keeper_events opening events ≡ event ∷ before
    → (keeper_after opening before).step ≡ Waits → (run opening events).now.keeper.step ≡ Writes
    → Begins (run opening events).now.keeper.writes opening.past.opened (run opening events).past.calls (slot_place (run opening events).now.keeper.last.number)
begins_so opening events event before life newest waits writes =
    of_event (λ (s : KeeperState). Begins s.writes opening.past.opened (run opening events).past.calls (slot_place s.last.number)) opening events event before newest
    (subst (λ (calls : List device.Call). Begins (keeper_after opening (event ∷ before)).writes opening.past.opened calls (slot_place (keeper_after opening (event ∷ before)).last.number)) made
    (run_begins opening.now.shape opening.now.places opening.past.opened opening.now.keeper life.told before event in_turn waits (to_event (λ (s : KeeperState). s.step ≡ Writes) opening events event before newest writes)))
  where
    in_turn : AreNumbersInTurn opening.now.shape opening.now.places opening.now.keeper (event ∷ before)
    in_turn = subst (λ (own : List KeeperEvent). AreNumbersInTurn opening.now.shape opening.now.places opening.now.keeper own) newest life.in_turn

    made : calls_made opening.now.shape opening.now.places opening.now.keeper (event ∷ before) ≡ (run opening events).past.calls
    made = subst (λ (own : List KeeperEvent). calls_made opening.now.shape opening.now.places opening.now.keeper own ≡ (run opening events).past.calls) newest (own_calls opening events life.opened)
