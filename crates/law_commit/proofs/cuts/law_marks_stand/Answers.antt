-- By the footprint of each ask, over the events of the life.
use Rattle.law_commit.proofs.OfCuts.Durables.{life_durable}
use Rattle.law_commit.proofs.OfCuts.Marks.{life_marks}
use Rattle.law_commit.proofs.cuts.law_marks_stand.Goals as goal

pub returns-clause-session : goal.returns-clause-session
returns-clause-session c = λ opening events session first its place became words mark. life_marks opening events session first place became.opened words became.was mark

pub returns-clause-durable : goal.returns-clause-durable
returns-clause-durable c = λ opening events session opened words seat. life_durable opening events session opened words seat
