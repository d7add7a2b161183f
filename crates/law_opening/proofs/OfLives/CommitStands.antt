-- One commit stands in what a crash leaves of an opened store.
use Rattle.std.proofs.Common.{ℕ, List, subst}
use Rattle.fkv_disk.specs.Calls.{MayLeave}
use Rattle.fkv_core.specs.Openings.{beginning}
use Rattle.law_refine.specs.Below.fkv_keeper.Keeping.{KeeperState}
use Rattle.law_paper.specs.Below.fkv_opening.TheOpened.{Opened}
use Rattle.law_refine.specs.Below.law_world.Standing.Opening.{AreNumbersInTurn}
use Rattle.law_refine.specs.Below.law_world.Standing.Standing.{IsOneInForce, TriplesStand}
use Rattle.law_refine.proofs.Below.law_world.OfStanding.Runs.{run_stands}
use Rattle.law_refine.specs.Below.law_world.Keeper.Lives.{IsLifeTold, is_life_writing, life_standing, life_writing}
use Rattle.law_refine.specs.Below.fkv_world.OwnEvents.{keeper_events}
use Rattle.law_refine.specs.Below.fkv_world.Runs.{World, run}
use Rattle.law_refine.specs.Below.fkv_world.World.{Event, Now}
use Rattle.law_refine.proofs.Below.law_world.OfKeeper.OneCommit.{image_left}
use Rattle.law_refine.proofs.Below.law_world.OfKeeper.OwnRun.{of_keeper}
use Rattle.law_refine.proofs.Below.law_world.OfKeeper.OwnCalls.{opened_stays}
use Rattle.law_opening.specs.Lives.OpenedFrom.{IsOpenedFrom}
use Rattle.law_opening.specs.Lives.Steps.{AreStepsOfOpened, OneCommitStands, Step, device_behind, events_of, now_behind}
use Rattle.law_opening.proofs.OfLives.Led.{Stands, stands}
use Rattle.law_opening.proofs.OfLives.ToldOpens.{told_opens}
use Rattle.law_opening.proofs.OfLives.WorldOpens.{world_opens}

pub life_told : (o : Opened) (n : Now) (bytes : List ℕ) (events : List Event) → IsOpenedFrom bytes o n → AreNumbersInTurn n.shape n.places n.keeper (keeper_events (beginning n bytes) events) → IsLifeTold (beginning n bytes) events
life_told o n bytes events from in_turn = record { opened = world_opens o n bytes from.world; told = told_opens bytes o n from; in_turn = in_turn }

commit_stands : (opening : World) (events : List Event) (image : List ℕ) → IsLifeTold opening events → MayLeave opening.past.opened (run opening events).past.calls image
    → OneCommitStands opening events (run opening events).now image
commit_stands opening events image life left =
    let stood = run_stands opening.now.shape opening.now.places opening.past.opened opening.now.keeper life.told (keeper_events opening events) image life.in_turn (image_left opening events image life.opened left) in
    record {
      commit = of_keeper (λ (s : KeeperState). IsOneInForce (is_life_writing opening events) s.last (life_standing opening events) (life_writing opening events).first image) opening events stood.0;
      triples = of_keeper (λ (s : KeeperState). TriplesStand opening.now.shape s.last.checkpoint (life_standing opening events) image) opening events stood.1;
    }

module _ {D : Type 0} (seen : D → List ℕ) (may_leave : D → List ℕ → Type 0) (o : Opened) (n : Now) (device : D) (steps : List (Step D)) (its : AreStepsOfOpened seen may_leave o n device steps) where
  pub steps_keep : (image : List ℕ) → may_leave (device_behind device steps) image → OneCommitStands (beginning n (seen device)) (events_of steps) (now_behind n steps) image
  steps_keep image left =
      let opening : World = beginning n (seen device) in
      let events : List Event = events_of steps in
      let life : IsLifeTold opening events = life_told o n (seen device) events its.opened its.in_turn in
      let at : Stands seen may_leave n device steps = stands seen may_leave n device life.opened its.synced steps its.lead_on in
      let given : MayLeave opening.past.opened (run opening events).past.calls image =
      subst (λ (bytes : List ℕ). MayLeave bytes (run opening events).past.calls image) (opened_stays opening events) (at.gives.leaves image left) in
      subst (λ (now : Now). OneCommitStands opening events now image) at.shows (commit_stands opening events image life given)
