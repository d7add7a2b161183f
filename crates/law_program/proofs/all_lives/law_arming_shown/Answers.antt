-- The law, by the fuse's states.
use Rattle.law_program.proofs.OfPlayedCalls.AllLives.{arming_shown}
use Rattle.law_program.proofs.all_lives.law_arming_shown.Goals as goal

pub returns : goal.returns
returns g c = arming_shown g.D.Device.seen g.D.Device.may_leave
