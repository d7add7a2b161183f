-- Where the logs of the commits of a life begin, by the laws of begun commits.
use Rattle.std.proofs.Common.{◌≡◌, ◌∙◌, ◌≤◌, ℕ, List, ap, sym, subst, arith}
use Rattle.fkv_base.specs.Limits.{is_specified}
use Rattle.fkv_base.specs.declared.numbers.Addr.{Addr}
use Rattle.fkv_base.specs.declared.shapes.Shape.{Shape}
use Rattle.law_opening.specs.Below.fkv_core.Openings.{IsOpeningWorld, beginning}
use Rattle.law_opening.specs.Below.fkv_opening.Opened.{IsStoreOf}
use Rattle.law_opening.specs.Below.fkv_opening.TheOpened.{Opened}
use Rattle.law_commit.specs.Below.fkv_keeper.Checkpoint.{Checkpoint}
use Rattle.law_commit.specs.Below.fkv_keeper.Keeping.{Finality}
use Rattle.law_commit.specs.Below.fkv_world.Runs.{World}
use Rattle.law_commit.specs.Below.fkv_world.World.{Event, Now}
use Rattle.law_commit.specs.Begins.{BegunBeginBelow, BegunBeginOn, OldBeginAsOpened, OpensScanned, SpecifiedBeginsStay}
use Rattle.law_commit.specs.BegunCommits.{BegunCommit}
use Rattle.law_commit.specs.Quiet.{OpensQuiet}
use Rattle.law_log.specs.Trace.{IsIn}
use Rattle.law_order.specs.Images.Named.{begun_so_far}
use Rattle.law_order.specs.Rules.Openings.{OpensItsEnds}
use Rattle.law_order.proofs.OfImages.LifeFits.{BeginFits}
use Rattle.law_order.proofs.OfRecovered.OfShows.Firsts.{opened_tail}

pub begin_of : OpensItsEnds → BegunBeginOn → SpecifiedBeginsStay → BegunBeginBelow → OldBeginAsOpened
    → (o : Opened) (n : Now) (bytes : List ℕ) (events : List Event) (d : BegunCommit) → IsStoreOf bytes o → IsOpeningWorld o n → IsIn d (begun_so_far n bytes events) → BeginFits o n d
begin_of ends begins_on stay below as_opened o n bytes events d store begins is =
    let opening : World = beginning n bytes in
    let quiet : OpensQuiet opening o.tail.0 = ends bytes o n store begins in
    let newest = begins.its_keeper.newest in
    let begin : n.keeper.last.begin ≡ o.begin = ap (λ (last : Finality). last.begin) newest in
    let scanned : OpensScanned opening o.tail.0 = record {
      quiet = quiet;
      no_newer = subst (λ (last : Finality). last.checkpoint.number.0 ≤ last.number.0) (sym newest) o.no_newer;
      before_scan = subst (λ (last : Finality). last.begin.0 ≤ last.checkpoint.first.0) (sym newest) o.begin_before_scan;
      below_tail = (let up = o.upwards in let tail = opened_tail o n begins in let first = ap (λ (last : Finality). last.checkpoint.first.0) newest in omega (arith, up, tail, first));
    } in
    let at_begin = ap (λ (a : Addr). a.0) begin in
    let on = begins_on opening events d quiet.opened is in
    let its = below opening o.tail.0 events d scanned is in
    let class : n.keeper.start.asked.class ≡ n.shape.class = begins.its_keeper.class ∙ ap (λ (x : Shape). x.class) (sym begins.its_shape) in
    record {
      on = omega (arith, at_begin, on);
      scan = its.scan;
      whole = λ specified. stay opening events d quiet.opened (ap is_specified (class ∙ specified)) is ∙ begin;
      as_opened = λ used. as_opened opening o.tail.0 events d scanned is (ap (λ (x : Checkpoint). x.number) used) ∙ begin;
    }
