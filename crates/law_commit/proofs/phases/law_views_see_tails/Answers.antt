-- By the guard's law of the tails that sessions find with the phase.
use Rattle.law_commit.proofs.OfPhases.ViewTails.{safe_below_coming, safe_below_view}
use Rattle.law_commit.proofs.phases.law_views_see_tails.Goals as goal

pub returns-clause-view : goal.returns-clause-view
returns-clause-view c = λ opening start events opened session first its became awake. safe_below_view c.law_seen.ensures.tails opening start events session first its opened became awake

pub returns-clause-coming : goal.returns-clause-coming
returns-clause-coming c = λ opening start events opened session first its view became comes. safe_below_coming c.law_seen.ensures.tails opening start events session first its opened became view comes
