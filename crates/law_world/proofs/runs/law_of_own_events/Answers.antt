-- An actor's own events.
use Rattle.fkv_world.proofs.Shown.{keeper_own, session_own}
use Rattle.law_world.proofs.runs.law_of_own_events.Goals as goal

pub returns-clause-session : goal.returns-clause-session
returns-clause-session c = λ w event session its own alive found. session_own w event session its own alive found

pub returns-clause-keeper : goal.returns-clause-keeper
returns-clause-keeper c = λ w event own alive. keeper_own w event own alive
