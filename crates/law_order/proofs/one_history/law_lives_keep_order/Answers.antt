-- The law, by those of its parts.
use Rattle.law_order.proofs.OfOneHistory.EachLife.{keeps_its_order}
use Rattle.law_order.proofs.one_history.law_lives_keep_order.Goals as goal

pub returns : goal.returns
returns c =
    keeps_its_order c.law_life_begins.ensures
    (record { ends = c.law_ends_open.ensures; versions = c.law_versions_open.ensures; latches = c.law_latches_open.ensures })
    c.law_given.ensures c.law_opening_fits.ensures c.law_world_ordered.ensures
