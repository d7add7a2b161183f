-- The law, by the order law and the law of whole calls.
use Rattle.law_program.proofs.OfPlayedCalls.EachLine.{calls_go_on, finishes_go_on, struck_finishes_end, struck_says_nothing}
use Rattle.law_program.proofs.OfPlayedCalls.Led.{engine_leads}
use Rattle.law_program.proofs.OfPlayedCalls.Steps.{engine_rules}
use Rattle.law_program.proofs.each_line.law_each_line.Goals as goal

pub returns : goal.returns
returns g c = λ all. record {
  calls = calls_go_on c.law_order.ensures.legal c.law_order.ensures.ordered c.law_order.ensures.fresh c.law_waiting_reads.ensures c.law_order.ensures.in_time c.law_unswept.ensures c.law_whole_calls.ensures c.law_finished_is_told.ensures _ _ _ (engine_rules _ _ _ _ _ _ _) (engine_leads _ _ _ _ _ _ _ all);
  finishes = finishes_go_on c.law_order.ensures.legal c.law_order.ensures.ordered c.law_order.ensures.fresh c.law_waiting_reads.ensures c.law_order.ensures.in_time c.law_unswept.ensures c.law_whole_calls.ensures c.law_finished_is_told.ensures _ _ _ (engine_rules _ _ _ _ _ _ _) (engine_leads _ _ _ _ _ _ _ all);
  struck_calls = struck_says_nothing c.law_order.ensures.legal c.law_order.ensures.ordered c.law_order.ensures.fresh c.law_waiting_reads.ensures c.law_order.ensures.in_time c.law_unswept.ensures c.law_whole_calls.ensures c.law_finished_is_told.ensures _ _ _ (engine_rules _ _ _ _ _ _ _) (engine_leads _ _ _ _ _ _ _ all);
  struck_finishes = struck_finishes_end c.law_order.ensures.legal c.law_order.ensures.ordered c.law_order.ensures.fresh c.law_waiting_reads.ensures c.law_order.ensures.in_time c.law_unswept.ensures c.law_whole_calls.ensures c.law_finished_is_told.ensures _ _ _ (engine_rules _ _ _ _ _ _ _) (engine_leads _ _ _ _ _ _ _ all);
}
