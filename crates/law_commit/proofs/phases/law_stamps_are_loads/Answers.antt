use Rattle.law_commit.proofs.OfPhases.SafeSeen.{safe_coming, safe_view, session_stamped}
use Rattle.law_commit.proofs.phases.law_stamps_are_loads.Goals as goal

pub returns : goal.returns
returns c = record { stamped = session_stamped; view = safe_view; coming = safe_coming }
