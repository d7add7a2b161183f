-- The law, of tests: a fact is that one is passed.
use Rattle.law_local.specs.Sessions.Known.{Passes}
use Rattle.law_local.proofs.OfSessions.Known.{begun_known, given_known, next_known, opened_known, stays_known}
use Rattle.law_local.proofs.sessions.law_of_known_requests.Goals as goal

pub returns-clause-replies : goal.returns-clause-replies
returns-clause-replies c = λ seat session reply waits waits' tries tries' knows keeps. next_known (Passes waits) (Passes waits') (Passes tries) (Passes tries') seat session reply knows keeps

pub returns-clause-calls : goal.returns-clause-calls
returns-clause-calls c = λ seat session its waits tries idle knows begins. begun_known (Passes waits) (Passes tries) seat session its idle knows begins

pub returns-clause-actions : goal.returns-clause-actions
returns-clause-actions c = λ seat session action waits tries knows. given_known (Passes waits) (Passes tries) seat session action knows

pub returns-clause-opened : goal.returns-clause-opened
returns-clause-opened c = λ session waits tries opened. opened_known (Passes waits) (Passes tries) session opened

pub returns-clause-stays : goal.returns-clause-stays
returns-clause-stays c = λ session waits waits' tries tries' goes attempts knows. stays_known (Passes waits) (Passes waits') (Passes tries) (Passes tries') session goes attempts knows
