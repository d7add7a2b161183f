use Rattle.law_paper.proofs.OfApart.Heart.{none_older, none_waits, none_copies}
use Rattle.law_paper.proofs.apart.law_apart.Goals as goal

pub returns : goal.returns
returns c = record { publishes = none_older; waits = none_waits; changes = none_copies }
