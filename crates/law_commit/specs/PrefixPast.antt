-- What the law of prefixes asks of the past of a life.
use Rattle.std.specs.Prelude.{ℕ, if◌then◌else◌, List, [], ◌∷◌, Option, Some, None}
use Rattle.law_refine.specs.Below.fkv_commit.Commit.{Commit}
use Rattle.law_refine.specs.Below.fkv_keeper.KeeperRun.{is_in_hand}
use Rattle.law_refine.specs.Below.fkv_world.Runs.{World, run}
use Rattle.law_refine.specs.Below.fkv_world.World.{Event, Commits, Now}
use Rattle.law_commit.specs.LastSerials.{serial_at}
use Rattle.law_commit.specs.BegunCommits.{BegunCommit, life_begun}
use Rattle.law_commit.specs.ToldPoints.{ToldPoint, points_told}

-- A commit may begin where the keeper has neither a call nor a commit in hand. Where one is in hand its caller is refused, and what was asked stays.
abbrev pub asked_where : Now → Option Commit → (ℕ → ℕ) → ℕ → ℕ
asked_where n None before = if is_in_hand n.keeper.step then before else serial_at n
asked_where n (Some c) before = before

abbrev pub asked_by : Now → Event → (ℕ → ℕ) → ℕ → ℕ
asked_by n (Commits kind) before = if n.crashed then before else asked_where n n.keeper.commit before
asked_by n event before = before

-- the last serial that each session had given as the commit in hand was asked for; before the first one, as the life began
unfoldable pub serials_asked : World → List Event → ℕ → ℕ
serials_asked opening [] = serial_at opening.now
serials_asked opening (event ∷ before) = asked_by (run opening before).now event (serials_asked opening before)

pub record PrefixPast : Type 0 where
  -- by session: the last serial that it had given as the commit in hand was asked for
  pub asked : ℕ → ℕ
  -- the newest first, with the opening's
  pub begun : List BegunCommit
  -- by session: what it was told as durable
  pub told : ℕ → List ToldPoint

-- after these events, the newest first
abbrev pub prefix_past : World → List Event → PrefixPast
prefix_past opening events = record {
  asked = serials_asked opening events;
  begun = life_begun opening events;
  told = λ session. points_told session (run opening events).past.trace;
}
