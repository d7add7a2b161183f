use Rattle.law_world.proofs.OfRuns.Lives.{runs_on}
use Rattle.law_world.proofs.runs.law_of_lives.Goals as goal

pub returns : goal.returns
returns c = λ opening later before. runs_on opening later before
