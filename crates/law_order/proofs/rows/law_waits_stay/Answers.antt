-- The law, one event of the log at a time.
use Rattle.law_order.proofs.OfRows.Stays.{pending_stays}
use Rattle.law_order.proofs.rows.law_waits_stay.Goals as goal

pub returns : goal.returns
returns c = λ life before event pending seen enabled knows. pending_stays life before event pending seen enabled knows
