-- The law, by what was asked for and what was served.
use Rattle.law_order.proofs.OfLooks.Truth.{looks_true, tells_upto}
use Rattle.law_order.proofs.looks.law_looks_true.Goals as goal

pub returns : goal.returns
returns c = λ life before enabled published known go served. (looks_true life before enabled known go served, tells_upto life before enabled known go served)
