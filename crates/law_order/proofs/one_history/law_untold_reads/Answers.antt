-- The law, by those of its parts.
use Rattle.law_order.proofs.OfRules.WaitingInTime.{untold_reads}
use Rattle.law_order.proofs.one_history.law_untold_reads.Goals as goal

pub returns : goal.returns
returns c = untold_reads c.law_life_begins.ensures c.law_lives_keep_order.ensures c.law_lives_seek.ensures c.law_history_beside.ensures
