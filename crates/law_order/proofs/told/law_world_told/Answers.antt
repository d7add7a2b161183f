-- The law, line by line.
use Rattle.law_order.proofs.OfTold.Enabled.{lines_enabled}
use Rattle.law_order.proofs.told.law_world_told.Goals as goal

pub returns : goal.returns
returns c = λ life before event enabled published own answered. lines_enabled life before event enabled published own answered
