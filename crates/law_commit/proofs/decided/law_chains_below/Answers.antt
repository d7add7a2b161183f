-- By what is taken, and by what is being made.
use Rattle.law_commit.proofs.OfDecided.Chained.{chains_below, triples_below}
use Rattle.law_commit.proofs.OfDecided.ChainsGrow.{keeps_old}
use Rattle.law_commit.proofs.decided.law_chains_below.Goals as goal

pub returns : goal.returns
returns c = record { chains = chains_below; old = keeps_old; triples = triples_below }
