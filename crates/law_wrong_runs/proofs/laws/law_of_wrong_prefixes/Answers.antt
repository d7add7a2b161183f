-- The wrong lives, computed.
use Rattle.law_wrong_runs.proofs.OfPrefixes.{wrong_prefixes}
use Rattle.law_wrong_runs.proofs.laws.law_of_wrong_prefixes.Goals as goal

pub returns : goal.returns
returns c = λ keeper one other. wrong_prefixes keeper one other
