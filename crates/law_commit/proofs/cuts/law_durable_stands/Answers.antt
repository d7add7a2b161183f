-- By what the keeper has stored last.
use Rattle.law_commit.proofs.OfCuts.Durables.{life_shows}
use Rattle.law_commit.proofs.cuts.law_durable_stands.Goals as goal

pub returns : goal.returns
returns c = λ opening events session opened words shows seat. life_shows opening events session opened words shows seat
