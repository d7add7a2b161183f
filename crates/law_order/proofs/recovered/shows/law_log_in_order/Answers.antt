-- By the rules that each life keeps.
use Rattle.law_opening.specs.Below.fkv_core.Openings.{beginning}
use Rattle.law_opening.specs.Log.Maps.{opening_map}
use Rattle.law_opening.specs.Log.OpeningLog.{opening_ghosts}
use Rattle.law_order.specs.OneHistory.EachLife.{IsLife, Life}
use Rattle.law_order.specs.Recovered.Leaves.{homes_of}
use Rattle.law_order.proofs.OfRecovered.OfShows.Order.{in_order}
use Rattle.law_commit.specs.Below.law_refine.Events.GhostEvents.{mapped}
use Rattle.law_order.proofs.recovered.shows.law_log_in_order.Goals as goal

pub returns : goal.returns
returns c = λ o n bytes events image leaves.
    let life = c.law_life_begins.ensures bytes o n leaves.store leaves.begins in
    let its : Life = record { bytes = bytes; opened = o; world = n; events = events } in
    let is : IsLife its = record { store = leaves.store; begins = leaves.begins; fits = leaves.fits; few = leaves.few } in
    in_order (homes_of n) (opening_map bytes o) o.number.0 (opening_ghosts bytes o) (mapped (beginning n bytes) events) life.log (c.law_lives_keep_rules.ensures its is)
