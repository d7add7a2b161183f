use Rattle.law_paper.proofs.OfKept.Upto.{keeps_prefix}
use Rattle.law_paper.proofs.kept.law_kept.Goals as goal

pub returns : goal.returns
returns c = keeps_prefix
