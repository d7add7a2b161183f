use Rattle.law_commit.proofs.OfPhases.SafeRuns.{keeper_runs, sessions_run}
use Rattle.law_commit.proofs.phases.law_runs_are_safe.Goals as goal

pub returns-clause-session : goal.returns-clause-session
returns-clause-session c = sessions_run

pub returns-clause-keeper : goal.returns-clause-keeper
returns-clause-keeper c = keeper_runs
