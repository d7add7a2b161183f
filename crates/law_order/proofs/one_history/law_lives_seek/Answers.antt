-- The law, by those of its parts.
use Rattle.law_order.proofs.OfOneHistory.EachLife.{seeks_its_reads}
use Rattle.law_order.proofs.one_history.law_lives_seek.Goals as goal

pub returns : goal.returns
returns c =
    seeks_its_reads c.law_life_begins.ensures
    (record { ends = c.law_ends_open.ensures; versions = c.law_versions_open.ensures; latches = c.law_latches_open.ensures })
    c.law_given.ensures c.law_opening_fits.ensures c.law_reads_met.ensures.seeking_or_told c.law_reads_met.ensures.tried_if_gone c.law_reads_met.ensures.seeking
    c.law_reads_met.ensures.untried
