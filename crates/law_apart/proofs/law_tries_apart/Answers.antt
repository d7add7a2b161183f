-- The law, by the rows of tries.
use Rattle.law_apart.proofs.OfApart.Tries.{came_stays, marks_told, sharers_pass, try_apart, try_begins_apart}
use Rattle.law_apart.proofs.law_tries_apart.Goals as goal

pub returns-clause-begins : goal.returns-clause-begins
returns-clause-begins c = try_begins_apart

pub returns-clause-leads_on : goal.returns-clause-leads_on
returns-clause-leads_on c = try_apart

pub returns-clause-passes : goal.returns-clause-passes
returns-clause-passes c = sharers_pass

pub returns-clause-marks : goal.returns-clause-marks
returns-clause-marks c = marks_told

pub returns-clause-came : goal.returns-clause-came
returns-clause-came c = came_stays
