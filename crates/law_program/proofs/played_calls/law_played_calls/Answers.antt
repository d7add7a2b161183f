-- The law, by the order law and the law of whole calls.
use Rattle.law_program.proofs.OfPlayedCalls.Replies.{lines_go_on, lines_reply, replies}
use Rattle.law_program.proofs.OfPlayedCalls.Steps.{engine_rules}
use Rattle.law_program.proofs.played_calls.law_played_calls.Goals as goal

pub returns-clause-calls : goal.returns-clause-calls
returns-clause-calls g c = replies c.law_order.ensures.legal c.law_order.ensures.ordered c.law_order.ensures.fresh c.law_whole_calls.ensures _ (engine_rules _ _ _ _ _ _ _)

pub returns-clause-lines : goal.returns-clause-lines
returns-clause-lines g c = lines_reply c.law_order.ensures.legal c.law_order.ensures.ordered c.law_order.ensures.fresh c.law_whole_calls.ensures _ (engine_rules _ _ _ _ _ _ _)

pub returns-clause-goes_on : goal.returns-clause-goes_on
returns-clause-goes_on g c = lines_go_on _ (engine_rules _ _ _ _ _ _ _)
