use Rattle.law_commit.proofs.OfPhases.QuietShown.{quiet_shown}
use Rattle.law_commit.proofs.phases.law_quiet_events_are_phases.Goals as goal

pub returns : goal.returns
returns c = quiet_shown
