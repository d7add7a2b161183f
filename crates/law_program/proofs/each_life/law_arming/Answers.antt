-- The law, by the fuse's states.
use Rattle.law_program.proofs.OfPlayedCalls.Lives.{arming_goes_on}
use Rattle.law_program.proofs.each_life.law_arming.Goals as goal

pub returns : goal.returns
returns g c = arming_goes_on g.D.Device.seen g.D.Device.may_leave
