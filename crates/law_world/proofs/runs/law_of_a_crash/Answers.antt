-- Nothing happens behind it.
use Rattle.law_world.proofs.OfRuns.Crashed.{crash_ends, crash_past, goes_on, nothing_behind}
use Rattle.law_world.proofs.runs.law_of_a_crash.Goals as goal

pub returns-clause-ends : goal.returns-clause-ends
returns-clause-ends c = λ w. crash_ends w

pub returns-clause-past : goal.returns-clause-past
returns-clause-past c = λ w. crash_past w

pub returns-clause-behind : goal.returns-clause-behind
returns-clause-behind c = λ w later. nothing_behind w later

pub returns-clause-goes_on : goal.returns-clause-goes_on
returns-clause-goes_on c = λ opening events alive none. goes_on opening events alive none
