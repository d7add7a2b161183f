-- What an event adds to each of the three lists.
use Rattle.law_world.proofs.OfKeeper.OwnCalls.{opened_stays}
use Rattle.law_world.proofs.OfRuns.Added.{calls_so, history_so, trace_so}
use Rattle.law_world.proofs.runs.law_of_the_past.Goals as goal

pub returns-clause-history : goal.returns-clause-history
returns-clause-history c = λ w event. history_so w event

pub returns-clause-trace : goal.returns-clause-trace
returns-clause-trace c = λ w event. trace_so w event

pub returns-clause-calls : goal.returns-clause-calls
returns-clause-calls c = λ w event. calls_so w event

pub returns-clause-opened : goal.returns-clause-opened
returns-clause-opened c = λ opening events. opened_stays opening events
