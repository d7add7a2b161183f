-- The pieces.
use Rattle.law_commit.proofs.Pieces.{ranks_so, counts_so, views_so, raises_so, begun_so, opened_so, asked_so, told_so}
use Rattle.law_commit.proofs.laws.law_of_worked_pieces.Goals as goal

pub returns-clause-ranks : goal.returns-clause-ranks
returns-clause-ranks c = ranks_so

pub returns-clause-counts : goal.returns-clause-counts
returns-clause-counts c = counts_so

pub returns-clause-views : goal.returns-clause-views
returns-clause-views c = views_so

pub returns-clause-raises : goal.returns-clause-raises
returns-clause-raises c = raises_so

pub returns-clause-begun : goal.returns-clause-begun
returns-clause-begun c = begun_so

pub returns-clause-opened : goal.returns-clause-opened
returns-clause-opened c = opened_so

pub returns-clause-asked : goal.returns-clause-asked
returns-clause-asked c = asked_so

pub returns-clause-told : goal.returns-clause-told
returns-clause-told c = told_so
