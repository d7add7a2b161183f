-- What the keeper tells of commits that have finished.
use Rattle.std.specs.Prelude.{◌≡◌, ℕ, List, ◌∷◌, Option, None, Some, Ok}
use Rattle.law_order.specs.Below.fkv_core.TheTold.{Told}
use Rattle.law_order.specs.Below.fkv_core.TheTold.TheVariants.{Turn}
use Rattle.law_order.specs.Below.fkv_keeper.Finished.{Finished}
use Rattle.law_order.specs.Below.fkv_world.World.{Event, Now}
use Rattle.law_order.specs.Below.law_commit.FinishedCommits.{ToldCommit, commits_finished}
use Rattle.law_order.specs.Prefix.Law.{past_so_far}

-- the commits that have finished in a life so far, each by its number and its points, the newest first
abbrev pub finished_so_far : List ℕ → Now → List Event → List ToldCommit
finished_so_far bytes first life = commits_finished (past_so_far first bytes life).begun

-- with the one that a turn tells as finished, if it tells one
abbrev pub with_commit : Option Finished → List ToldCommit → List ToldCommit
with_commit None before = before
with_commit (Some its) before = record { number = its.number; points = its.points.items } ∷ before

abbrev pub with_finished : Told → List ToldCommit → List ToldCommit
with_finished (Turn (Ok turn)) before = with_commit turn.finished before
with_finished said before = before

-- The commits that have finished in the life are those before the call, and just the one that is told.
abbrev pub FinishesWhatIsTold : List ℕ → Now → List Event → List Event → Told → Type 0
FinishesWhatIsTold bytes first life later said = finished_so_far bytes first later ≡ with_finished said (finished_so_far bytes first life)
