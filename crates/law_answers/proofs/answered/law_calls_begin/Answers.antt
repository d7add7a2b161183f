-- The law, by what a step tells.
use Rattle.law_answers.proofs.OfAnswered.Begun.{begun}
use Rattle.law_answers.proofs.answered.law_calls_begin.Goals as goal

pub returns : goal.returns
returns g c = λ its actor after told step starts there alive idle. begun its actor c.args.world.now.now after.now step.read step.granted step.done told step.now step.tells starts there alive idle
