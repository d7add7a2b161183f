-- The law, by worlds, new stores and the order law.
use Rattle.law_order.proofs.OfOneHistory.CommittedLives.{committed_life, crashed_life}
use Rattle.law_order.proofs.OfOneHistory.NewLives.{shapes_have_lives, stores_have_lives}
use Rattle.law_order.proofs.OfOneHistory.WorkedLives.{worked_life}
use Rattle.law_order.proofs.new_lives.law_life_exists.Goals as goal

pub returns-clause-opened : goal.returns-clause-opened
returns-clause-opened c = stores_have_lives c.law_world_exists.ensures

pub returns-clause-created : goal.returns-clause-created
returns-clause-created c = shapes_have_lives c.law_world_exists.ensures c.law_new_stores.ensures.created c.law_new_stores.ensures.opened c.law_new_stores.ensures.holds

pub returns-clause-worked : goal.returns-clause-worked
returns-clause-worked c =
    let law = c.law_order.ensures in
    worked_life c.law_world_exists.ensures c.law_new_stores.ensures.created c.law_new_stores.ensures.opened c.law_new_stores.ensures.holds
    (record { legal = law.legal; ordered = law.ordered; fresh = law.fresh; in_time = law.in_time; guarded = law.guarded; once = law.once })

pub returns-clause-committed : goal.returns-clause-committed
returns-clause-committed c =
    let law = c.law_order.ensures in
    committed_life c.law_world_exists.ensures c.law_new_stores.ensures.created c.law_new_stores.ensures.opened c.law_new_stores.ensures.holds
    (record { legal = law.legal; ordered = law.ordered; fresh = law.fresh; in_time = law.in_time; guarded = law.guarded; once = law.once })

pub returns-clause-crashed : goal.returns-clause-crashed
returns-clause-crashed c = crashed_life c.law_world_exists.ensures c.law_new_stores.ensures.created c.law_new_stores.ensures.opened c.law_new_stores.ensures.holds
