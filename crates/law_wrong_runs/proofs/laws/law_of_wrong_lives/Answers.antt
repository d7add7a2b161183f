-- The law, computed.
use Rattle.law_wrong_runs.proofs.Lives.{wrong_lives}
use Rattle.law_wrong_runs.proofs.laws.law_of_wrong_lives.Goals as goal

pub returns : goal.returns
returns c = λ keeper one other. wrong_lives keeper one other
