-- Over a life the log begins at first where the store was opened, and no record lies below that. Where it comes to begin all below is fixed.
use Rattle.std.proofs.Common.{ℕ, ◌≤◌, ◌∙◌, ⊎_elim, inl, inr, sym, arith, List, [], ◌++◌}
use Rattle.std.proofs.lemmas.Bool.{cases_lt}
use Rattle.law_commit.specs.Below.fkv_world.Runs.{run}
use Rattle.law_commit.specs.Below.fkv_world.World.{Event}
use Rattle.law_commit.specs.Below.law_refine.Events.GhostEvents.{life_ghosts, mapped}
use Rattle.law_commit.proofs.Below.law_refine.OfMail.GoneTold.{begin_above}
use Rattle.law_commit.proofs.Below.law_world.OfKeeper.OwnRun.{keeper_goes_on}
use Rattle.law_log.specs.Begins.{IsAbove, Live}
use Rattle.law_log.specs.Ghosts.{Log, ghost_run}
use Rattle.law_log.specs.Enabled.{AreEnabled}
use Rattle.law_log.proofs.Shown.{above_live, run_held}
use Rattle.law_opening.proofs.OfChanges.LifeEvents.{life_low}
use Rattle.law_order.specs.Known.Begins.{BeginStays, BegunLife, begin_in, home_of_world}
use Rattle.law_order.proofs.OfServed.Device.{begins_linked}
use Rattle.law_order.proofs.OfSwept.Low.{flushed_is_fixed, life_low as keeper_low}

-- it never goes back
pub begin_rises : (life : BegunLife) (later before : List Event) → begin_in (run life.opening before) ≤ begin_in (run life.opening (later ++ before))
begin_rises life later before = keeper_goes_on life.opening later before life.begins.world

pub begin_from : (life : BegunLife) (events : List Event) → begin_in life.opening ≤ begin_in (run life.opening events)
begin_from life events = begin_above life.opening events life.begins.world

-- where it has stayed, it had stayed before
pub stayed_before : (life : BegunLife) (later before : List Event) → BeginStays life.opening (later ++ before) → BeginStays life.opening before
stayed_before life later before stays = let low = begin_from life before in let up = begin_rises life later before in omega (arith, stays, low, up)

-- no record lies below where it began at first: none did then, and what is new lies above the end of the records
pub life_above : (life : BegunLife) (events : List Event) → IsAbove (begin_in life.opening) (life_ghosts life.opening life.ghosts events).log
life_above life events a cell is = ⊎_elim
    (λ old. life.begins.above a cell (sym (life_low life.opening life.start life.lists life.ghosts events a (begins_linked life) old) ∙ is))
    (λ new. let begins = life.begins.before_end in omega (arith, begins, new))
    (cases_lt a life.start)

-- and all below where it begins now is fixed
pub begin_fixed : (life : BegunLife) (events : List Event) → begin_in (run life.opening events) ≤ (life_ghosts life.opening life.ghosts events).log.fixed
begin_fixed life events =
    let low = (keeper_low life events).begin in
    let fixed = flushed_is_fixed life events in
    omega (arith, low, fixed)

-- so at first the log does without what lies there
pub first_live : (life : BegunLife) → Live (begin_in life.opening) (home_of_world life.opening) life.ghosts.log
unfolding run AreEnabled mapped ghost_run
first_live life =
    let home : ℕ → ℕ = home_of_world life.opening in
    let held = run_held home life.map life.number life.ghosts [] life.begins.log tt in
    (above_live home (begin_in life.opening) life.ghosts.log held.chains held.none life.begins.above).0

-- and so below each lower floor
pub live_below : (begin floor : ℕ) (home : ℕ → ℕ) (log : Log) → floor ≤ begin → Live begin home log → Live floor home log
live_below begin floor home log low live = λ key. ⊎_elim (λ on. inl (omega (arith, low, on))) (λ none. inr none) (live key)
