-- What the points of a commit keep of the life in which it has begun.
use Rattle.std.specs.Prelude.{◌≡◌, ℕ, List}
use Rattle.law_commit.specs.Below.fkv_keeper.LastCommits.{points_written}
use Rattle.fkv_map.specs.History.{AreAtMost, IsWhole, point_of}
use Rattle.law_opening.specs.Below.fkv_opening.TheOpened.{Opened}
use Rattle.law_commit.specs.Below.fkv_world.World.{Event, Now}
use Rattle.law_commit.specs.BegunCommits.{BegunCommit}
use Rattle.law_order.specs.Images.Named.{begun_so_far}
use Rattle.law_log.specs.Trace.{IsIn}
use Rattle.law_order.specs.OneHistory.EachLife.{IsLife, Life}
use Rattle.law_order.specs.Prefix.Law.{history_so_far}
use Rattle.law_order.specs.Rules.Ordered.{effects_so_far}
use Rattle.law_commit.specs.Below.law_paper.Kept.{PointsSplit}

-- What the points of a commit keep of a life.
pub record KeepsItsPoints (o : Opened) (n : Now) (bytes : List ℕ) (events : List Event) (c : BegunCommit) : Type 0 where
  -- just the updates of versions up to its number
  pub split : PointsSplit c.points c.number.0 (effects_so_far n bytes events)
  -- each session's serials above its point of the opening, up to its point, once
  pub whole : IsWhole (history_so_far n bytes events) o.points.items c.points
  -- none has fallen since the opening
  pub risen : AreAtMost o.points.items c.points
  -- and a slot has room for each
  pub fits : (session : ℕ) → point_of (points_written n.shape.sessions c.points) session ≡ point_of c.points session

-- So it is of each commit that has begun in a life, with the opening's.
abbrev pub CommitsKeepTheirPoints : Type 0
CommitsKeepTheirPoints = (its : Life) (c : BegunCommit) → IsLife its → IsIn c (begun_so_far its.world its.bytes its.events) → KeepsItsPoints its.opened its.world its.bytes its.events c
