-- The law, by what each event leaves.
use Rattle.law_order.proofs.OfRows.Asks.{run_seeks}
use Rattle.law_order.proofs.rows.law_requests_asked.Goals as goal

pub returns : goal.returns
returns c = λ seat opening events opened. run_seeks seat opening events opened
