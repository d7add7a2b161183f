-- The life, computed.
use Rattle.law_refine.proofs.OfEvents.Worked.{worked_life}
use Rattle.law_refine.proofs.events.law_of_a_worked_life.Goals as goal

pub returns : goal.returns
returns c = λ keeper one other opened. worked_life keeper one other opened
