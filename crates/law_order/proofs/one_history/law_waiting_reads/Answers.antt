-- The law, while the log begins where it did at first.
use Rattle.law_order.proofs.OfRules.WaitingInTime.{waiting_reads}
use Rattle.law_order.proofs.one_history.law_waiting_reads.Goals as goal

pub returns : goal.returns
returns c = waiting_reads c.law_life_begins.ensures c.law_untold_reads.ensures
