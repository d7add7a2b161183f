-- The law, by what the event makes of each session.
use Rattle.law_order.proofs.OfRows.Rows.{rows_go_on}
use Rattle.law_order.proofs.rows.law_rows_go_on.Goals as goal

pub returns : goal.returns
returns c = λ life before event given opens all_apart begin enabled known told. rows_go_on life before event given opens all_apart begin enabled known told
