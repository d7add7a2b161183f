use Rattle.law_refine.proofs.OfIndex.SessionParts.{run_moves}
use Rattle.law_refine.proofs.index.law_of_searches.Goals as goal

pub returns : goal.returns
returns c = run_moves
