-- The law, by the call that is due in each step.
use Rattle.law_calls.proofs.CallsMet.{all_met}
use Rattle.law_calls.proofs.laws.law_of_noted_calls.Goals as goal

pub returns : goal.returns
returns g c = all_met g.D.Device
