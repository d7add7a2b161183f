-- The laws of the keeper, of the keeper of a life.
use Rattle.std.proofs.Common.{◌≡◌, ◌≤◌, ℕ, List, [], ◌∷◌, ◌++◌, refl, sym, subst, true, arith}
use Rattle.fkv_keeper.specs.KeeperLaws.{IsBrokenForGood, IsWritten}
use Rattle.fkv_keeper.specs.KeeperRun.{KeeperEvent, has_failed, keeper_happens, keeper_run}
use Rattle.fkv_keeper.specs.Keeping.{KeeperState}
use Rattle.fkv_keeper.specs.SlotLaws.{HasBegin}
use Rattle.fkv_keeper.specs.declared.keepers.Keeping.TheVariants.{Finishes}
use Rattle.fkv_keeper.proofs.Shown.{run_begins, run_broken, run_finished, run_on}
use Rattle.law_world.specs.Keeper.Lives.{keeper_after, life_writing}
use Rattle.fkv_world.specs.Opened.{IsOpenedWorld}
use Rattle.fkv_world.specs.OwnEvents.{keeper_events, keeper_part_of}
use Rattle.fkv_world.specs.Runs.{World, run}
use Rattle.fkv_world.specs.World.{Event}
use Rattle.fkv_world.proofs.Shown.{keeper_runs}

-- what holds of its own run holds of it
pub of_keeper : (P : KeeperState → Type 0) (opening : World) (events : List Event) → P (keeper_after opening (keeper_events opening events)) → P (run opening events).now.keeper
of_keeper P opening events holds = subst P (sym (keeper_runs opening events)) holds

-- and what is asked of it is asked of its own run
pub to_keeper : (P : KeeperState → Type 0) (opening : World) (events : List Event) → P (run opening events).now.keeper → P (keeper_after opening (keeper_events opening events))
to_keeper P opening events holds = subst P (keeper_runs opening events) holds

-- so behind its newest event
pub of_event : (P : KeeperState → Type 0) (opening : World) (events : List Event) (event : KeeperEvent) (before : List KeeperEvent) → keeper_events opening events ≡ event ∷ before
    → P (keeper_after opening (event ∷ before)) → P (run opening events).now.keeper
of_event P opening events event before e holds = of_keeper P opening events (subst (λ (own : List KeeperEvent). P (keeper_after opening own)) (sym e) holds)

pub to_event : (P : KeeperState → Type 0) (opening : World) (events : List Event) (event : KeeperEvent) (before : List KeeperEvent) → keeper_events opening events ≡ event ∷ before
    → P (run opening events).now.keeper → P (keeper_after opening (event ∷ before))
to_event P opening events event before e holds = subst (λ (own : List KeeperEvent). P (keeper_after opening own)) e (to_keeper P opening events holds)

-- what one event does
pub by_move : (P : KeeperState → Type 0) (opening : World) (event : KeeperEvent) (before : List KeeperEvent) → P (keeper_happens opening.now.shape opening.now.places (keeper_after opening before) event)
    → P (keeper_after opening (event ∷ before))
unfolding keeper_run
by_move P opening event before holds = holds

-- where it has failed, and where it stores the words of a finish
pub keeper_breaks : (opening : World) (events : List Event) → IsOpenedWorld opening → has_failed opening.now.shape opening.now.places opening.now.keeper (keeper_events opening events) ≡ true
    → IsBrokenForGood opening.now.shape opening.now.places (run opening events).now.keeper
keeper_breaks opening events opened failed = of_keeper (λ s. IsBrokenForGood opening.now.shape opening.now.places s) opening events (run_broken opening.now.shape opening.now.places opening.now.keeper (keeper_events opening events) opened.keeper failed)

pub keeper_finishes : (opening : World) (events : List Event) → IsOpenedWorld opening → (run opening events).now.keeper.step ≡ Finishes
    → IsWritten opening.now.shape (run opening events).now.keeper (life_writing opening events)
keeper_finishes opening events opened finishes =
    of_keeper (λ s. IsWritten opening.now.shape s (life_writing opening events)) opening events
    (run_finished opening.now.shape opening.now.places opening.now.keeper (keeper_events opening events) opened.keeper (to_keeper (λ s. s.step ≡ Finishes) opening events finishes))

-- where the log begins
pub keeper_begins : (opening : World) (events : List Event) → IsOpenedWorld opening → HasBegin (run opening events).now.keeper
keeper_begins opening events opened =
    of_keeper (λ s. HasBegin s) opening events
    (run_begins opening.now.shape opening.now.places opening.now.keeper (keeper_events opening events) opened.keeper)

-- and it never goes back
begin_after : World → List KeeperEvent → ℕ
begin_after opening own = (keeper_after opening own).last.begin.0

pub keeper_goes_on : (opening : World) (later before : List Event) → IsOpenedWorld opening → (run opening before).now.keeper.last.begin.0 ≤ (run opening (later ++ before)).now.keeper.last.begin.0
unfolding keeper_events begin_after
keeper_goes_on opening [] before opened = omega arith
keeper_goes_on opening (event ∷ later) before opened =
    let low = keeper_goes_on opening later before opened in
    let own : List KeeperEvent = keeper_events opening (later ++ before) in
    let came : List KeeperEvent = keeper_part_of (run opening (later ++ before)) event in
    let next : begin_after opening own ≤ begin_after opening (came ++ own) = run_on opening.now.shape opening.now.places opening.now.keeper came own opened.keeper in
    let was : (run opening (later ++ before)).now.keeper.last.begin.0 ≡ begin_after opening own = of_keeper (λ s. s.last.begin.0 ≡ begin_after opening own) opening (later ++ before) refl in
    let now : (run opening (event ∷ later ++ before)).now.keeper.last.begin.0 ≡ begin_after opening (came ++ own) = of_keeper (λ s. s.last.begin.0 ≡ begin_after opening (came ++ own)) opening (event ∷ later ++ before) refl in
    omega (arith, low, next, was, now)
