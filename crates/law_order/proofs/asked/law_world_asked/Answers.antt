-- The law, by what stands between the events of a life.
use Rattle.law_order.proofs.OfAsked.Life.{life_looks, life_asks, life_asked}
use Rattle.law_order.proofs.asked.law_world_asked.Goals as goal

pub returns-clause-looks : goal.returns-clause-looks
returns-clause-looks c = λ opening start session events s opened store there attempting. life_looks opening start session events s opened store there attempting

pub returns-clause-asks : goal.returns-clause-asks
returns-clause-asks c = λ opening start session events s opened store there attempting. life_asks opening start session events s opened store there attempting

pub returns-clause-asked : goal.returns-clause-asked
returns-clause-asked c = λ opening start session events s opened store there. life_asked opening start session events s opened store there
