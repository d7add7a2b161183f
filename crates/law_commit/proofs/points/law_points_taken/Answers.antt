-- By the laws of how versions end, and of what cut words show.
use Rattle.law_commit.proofs.OfPoints.AsTaken.{begun_as_taken}
use Rattle.law_commit.proofs.OfPoints.Begun.{begun_have_points}
use Rattle.law_commit.proofs.OfPoints.GoOn.{cuts_go_on}
use Rattle.law_commit.proofs.OfPoints.Last.{last_has_points, rises_from_last}
use Rattle.law_commit.proofs.OfPoints.Taken.{takes_points}
use Rattle.law_commit.proofs.points.law_points_taken.Goals as goal

pub returns-clause-cuts : goal.returns-clause-cuts
returns-clause-cuts c = cuts_go_on c.law_versions_end.ensures.live c.law_phases_are_seen.ensures.sound

pub returns-clause-taken : goal.returns-clause-taken
returns-clause-taken c = takes_points c.law_versions_end.ensures.live c.law_phases_are_seen.ensures.sound c.law_cuts_show_points.ensures

pub returns-clause-begun : goal.returns-clause-begun
returns-clause-begun c = begun_have_points c.law_versions_end.ensures.live c.law_phases_are_seen.ensures.sound c.law_cuts_show_points.ensures

pub returns-clause-in_hand : goal.returns-clause-in_hand
returns-clause-in_hand c = begun_as_taken

pub returns-clause-last : goal.returns-clause-last
returns-clause-last c = last_has_points (begun_have_points c.law_versions_end.ensures.live c.law_phases_are_seen.ensures.sound c.law_cuts_show_points.ensures)

pub returns-clause-risen : goal.returns-clause-risen
returns-clause-risen c =
    rises_from_last (begun_have_points c.law_versions_end.ensures.live c.law_phases_are_seen.ensures.sound c.law_cuts_show_points.ensures)
    (takes_points c.law_versions_end.ensures.live c.law_phases_are_seen.ensures.sound c.law_cuts_show_points.ensures)
