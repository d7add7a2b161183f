-- By the laws of the points that commits take.
use Rattle.std.proofs.Common.{ℕ, ◌≤◌, List, [], ◌∷◌, sym, subst}
use Rattle.law_opening.specs.Below.fkv_core.Openings.{beginning}
use Rattle.law_commit.specs.Below.fkv_world.Runs.{World, run}
use Rattle.law_commit.specs.Below.fkv_world.World.{Now}
use Rattle.law_commit.specs.LastSerials.{serial_at}
use Rattle.law_commit.specs.BegunCommits.{BegunCommit, life_begun}
use Rattle.law_commit.specs.Points.{BeginsAsTaken, OpensPointed}
use Rattle.law_commit.specs.PrefixPast.{serials_asked}
use Rattle.law_order.specs.Prefix.Law.{BeginsWithTaken}
use Rattle.law_order.proofs.prefix.law_points_are_fair.Goals as goal

-- the newest that has begun, in the words of the law
begins_so : (n : Now) (begun : List BegunCommit) → BeginsAsTaken n.keeper begun → BeginsWithTaken n begun
begins_so n [] its = tt
begins_so n (c ∷ older) its = λ unfinished. let was = its unfinished in record { commit = was.commit; in_hand = was.in_hand; number = was.number; taken = was.taken; points = was.points }

pub returns : goal.returns
returns c = λ its is later before same.
    let opening : World = beginning its.world its.bytes in
    let opens : OpensPointed opening its.opened.tail.0 = c.law_points_open.ensures its.bytes its.opened its.world is.store is.begins in (
      (λ commit in_hand taken session.
          let is_point = c.law_points_taken.ensures.taken opening its.opened.tail.0 before commit opens in_hand taken session in
          record {
            since_asked = subst (λ (x : ℕ). serials_asked opening before session ≤ x) (sym is_point) (c.law_points_between.ensures.since opening its.opened.tail.0 before commit session opens.quiet in_hand);
            till_now = subst (λ (x : ℕ). x ≤ serial_at (run opening before).now session) (sym is_point) (c.law_points_between.ensures.given opening its.opened.tail.0 before session commit.number.0 opens.quiet);
            risen = c.law_points_taken.ensures.risen opening its.opened.tail.0 before commit session opens in_hand taken;
          }),
      begins_so (run opening before).now (life_begun opening before) (c.law_points_taken.ensures.in_hand opening its.opened.tail.0 before opens),
    )
