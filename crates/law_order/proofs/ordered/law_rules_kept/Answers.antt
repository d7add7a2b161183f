-- The law, of a life that keeps order.
use Rattle.law_order.proofs.ordered.law_rules_kept.Goals as goal

pub returns-clause-enabled : goal.returns-clause-enabled
returns-clause-enabled c = λ life events given opens cells fits apart.
    (c.law_world_ordered.ensures life events given opens cells fits apart).enabled

pub returns-clause-published : goal.returns-clause-published
returns-clause-published c = λ life events given opens cells fits apart.
    (c.law_world_ordered.ensures life events given opens cells fits apart).published
