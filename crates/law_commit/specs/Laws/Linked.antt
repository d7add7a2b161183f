-- What the laws of `linked` say.
use Rattle.std.specs.Prelude.{ℕ, List}
use Rattle.law_refine.specs.Below.fkv_world.Runs.{World, run}
use Rattle.law_refine.specs.Below.fkv_world.World.{Event}
use Rattle.law_refine.specs.Below.law_world.Guarded.Shows as guard
use Rattle.law_log.specs.Ghosts.{Ghosts}
use Rattle.law_refine.specs.Index.Shows as index
use Rattle.law_refine.specs.Events.GhostEvents.{life_ghosts}
use Rattle.law_refine.specs.Events.Reserved.{IsUnbornFrom, ReservesNothing, tail_at}
use Rattle.law_refine.specs.Heads.Heads.{LeadToHeads}
use Rattle.law_commit.specs.Linked.{HaveMetEmpty, MeetEmpty}

-- at the load of an eighth word that leads nowhere the chain of the searched home is empty
abbrev pub LinksMeetEmptyChains : Type 0
LinksMeetEmptyChains =
    (opening : World) (start : ℕ) (lists : ℕ → List ℕ) (ghosts : Ghosts) (events : List Event) → guard.IsOpened opening.now start → index.IsOpened opening lists
    → IsUnbornFrom (tail_at opening.now) ghosts → ReservesNothing ghosts → LeadToHeads opening.now lists ghosts.log
    → MeetEmpty (run opening events).now (life_ghosts opening ghosts events).log

-- an update's search that takes or links an overflow bucket has met an empty chain
abbrev pub LinkersHaveMetEmptyChains : Type 0
LinkersHaveMetEmptyChains =
    (opening : World) (start : ℕ) (lists : ℕ → List ℕ) (ghosts : Ghosts) (events : List Event) → guard.IsOpened opening.now start → index.IsOpened opening lists
    → IsUnbornFrom (tail_at opening.now) ghosts → ReservesNothing ghosts → LeadToHeads opening.now lists ghosts.log
    → HaveMetEmpty opening ghosts events
