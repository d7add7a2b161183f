-- The law, by its lemmas.
use Rattle.law_world.proofs.OfGuardSessions.InPlace.{run_above, run_may_change, run_outer}
use Rattle.law_world.proofs.OfGuardSessions.Permitted.{moves_permitted}
use Rattle.law_world.proofs.guard_sessions.law_sessions_permitted.Goals as goal

pub returns-clause-changes : goal.returns-clause-changes
returns-clause-changes c = run_above

pub returns-clause-may_change : goal.returns-clause-may_change
returns-clause-may_change c = run_may_change

pub returns-clause-permitted : goal.returns-clause-permitted
returns-clause-permitted c = moves_permitted

pub returns-clause-outer : goal.returns-clause-outer
returns-clause-outer c = run_outer
