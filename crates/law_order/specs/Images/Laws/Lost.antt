-- What the law of `lost` says.
use Rattle.std.specs.Prelude.{◌⊎◌, ◌≡◌, ℕ, List}
use Rattle.law_opening.specs.Below.fkv_core.Openings.{IsOpeningWorld}
use Rattle.law_opening.specs.Below.fkv_opening.Opened.{IsStoreOf}
use Rattle.law_opening.specs.Below.fkv_opening.TheOpened.{Opened}
use Rattle.law_commit.specs.Below.fkv_world.World.{Event, Now}
use Rattle.law_commit.specs.BegunCommits.{BegunCommit, commit_opened}
use Rattle.law_order.specs.Images.Lost.{LosesAsOpened}
use Rattle.law_order.specs.Images.Named.{begun_so_far}
use Rattle.law_log.specs.Trace.{IsIn}
use Rattle.law_opening.specs.Lives.Reaching.{ReachesFar}

-- each commit that a life has begun loses what the opening left out, or nothing
abbrev pub CommitsLoseTheRest : Type 0
CommitsLoseTheRest =
    (o : Opened) (n : Now) (bytes : List ℕ) (events : List Event) (c : BegunCommit) (store : IsStoreOf bytes o) → IsOpeningWorld o n → ReachesFar bytes → IsIn c (begun_so_far n bytes events)
    → LosesAsOpened o n bytes store c ⊎ (c ≡ commit_opened n bytes)
