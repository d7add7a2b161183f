-- Each machine by its own events.
use Rattle.fkv_world.proofs.Shown.{keeper_runs, session_runs}
use Rattle.law_world.proofs.runs.law_of_own_runs.Goals as goal

pub returns-clause-session : goal.returns-clause-session
returns-clause-session c = λ opening session first events found. session_runs opening session first events found

pub returns-clause-keeper : goal.returns-clause-keeper
returns-clause-keeper c = λ opening events. keeper_runs opening events
