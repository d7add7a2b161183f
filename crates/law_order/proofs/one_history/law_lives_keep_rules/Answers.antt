-- It is a part of the order that lives keep.
use Rattle.law_order.proofs.one_history.law_lives_keep_rules.Goals as goal

pub returns : goal.returns
returns c = λ its is. (c.law_lives_keep_order.ensures its is).enabled
