-- As the life of an opened store begins, what the laws of commits' ends suppose of it holds.
use Rattle.std.proofs.Common.{ℕ, List}
use Rattle.law_opening.specs.Below.fkv_core.Openings.{IsOpeningWorld, beginning}
use Rattle.law_opening.specs.Below.fkv_opening.Opened.{IsStoreOf}
use Rattle.law_opening.specs.Below.fkv_opening.TheOpened.{Opened}
use Rattle.law_commit.specs.Below.fkv_world.World.{Now}
use Rattle.law_opening.specs.Log.OpeningLog.{opening_ghosts}
use Rattle.law_commit.specs.Decided.Below.{OpensWhole}
use Rattle.law_order.specs.Rules.Openings.{BeginsItsLife, OpensItsEnds, OpensItsVersions}

pub opens_whole : BeginsItsLife → OpensItsEnds → OpensItsVersions → (bytes : List ℕ) (o : Opened) (n : Now) → IsStoreOf bytes o → IsOpeningWorld o n → OpensWhole (beginning n bytes) o.tail.0 (opening_ghosts bytes o)
opens_whole begins ends versions bytes o n store its =
    let life = begins bytes o n store its in
    let log = versions bytes o n store its in
    record { quiet = ends bytes o n store its; unborn = log.unborn; decided = life.reserves; upto = log.upto }
