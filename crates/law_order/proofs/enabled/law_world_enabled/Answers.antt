-- The law, by what a session's attempt knows and is told.
use Rattle.law_order.proofs.OfEnabled.Changes.{changes_published}
use Rattle.law_order.proofs.OfEnabled.Own.{own_enabled}
use Rattle.law_order.proofs.enabled.law_world_enabled.Goals as goal

pub returns-clause-published : goal.returns-clause-published
returns-clause-published c = λ life before event known. changes_published life before event known

pub returns-clause-enabled : goal.returns-clause-enabled
returns-clause-enabled c = λ life before event given opens all_apart enabled published known told alive.
    own_enabled life before event given opens all_apart enabled published known told alive
