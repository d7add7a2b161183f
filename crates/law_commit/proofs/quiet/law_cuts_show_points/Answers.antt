-- By the laws of versions that end, and of cuts.
use Rattle.law_commit.proofs.OfQuiet.Cuts.{cuts_show}
use Rattle.law_commit.proofs.quiet.law_cuts_show_points.Goals as goal

pub returns : goal.returns
returns c = cuts_show c.law_versions_end.ensures.live c.law_phases_are_seen.ensures.sound c.law_cuts_stand.ensures.asleep
