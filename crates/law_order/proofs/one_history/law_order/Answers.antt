-- The law, of lives that keep order.
use Rattle.law_order.specs.Rules.InTime.{ReadsInTime}
use Rattle.law_order.specs.Rules.Ordered.{HasLegalHistory, IsGuarded, OrdersItsCalls, ReadsFreshly}
use Rattle.law_order.proofs.OfOneHistory.EachLife.{of_each_life}
use Rattle.law_order.proofs.one_history.law_order.Goals as goal

pub returns-clause-legal : goal.returns-clause-legal
returns-clause-legal c = of_each_life HasLegalHistory c.law_lives_keep_order.ensures c.law_order_of_rules.ensures.legal

pub returns-clause-ordered : goal.returns-clause-ordered
returns-clause-ordered c = of_each_life OrdersItsCalls c.law_lives_keep_order.ensures c.law_order_of_rules.ensures.ordered

pub returns-clause-fresh : goal.returns-clause-fresh
returns-clause-fresh c = of_each_life ReadsFreshly c.law_lives_keep_order.ensures c.law_order_of_rules.ensures.fresh

pub returns-clause-in_time : goal.returns-clause-in_time
returns-clause-in_time c = of_each_life ReadsInTime c.law_lives_keep_order.ensures c.law_order_of_rules.ensures.in_time

pub returns-clause-guarded : goal.returns-clause-guarded
returns-clause-guarded c = of_each_life IsGuarded c.law_lives_keep_order.ensures c.law_order_of_rules.ensures.guarded

pub returns-clause-once : goal.returns-clause-once
returns-clause-once c = c.law_order_of_rules.ensures.once
