-- By what the keeper knows as it starts a commit, and by counts of versions.
use Rattle.law_commit.proofs.OfPoints.Asked.{since_asked}
use Rattle.law_commit.proofs.OfPoints.Rises.{rises_by_version, up_to_given}
use Rattle.law_commit.proofs.points.law_points_between.Goals as goal

pub returns-clause-since : goal.returns-clause-since
returns-clause-since c = since_asked

pub returns-clause-given : goal.returns-clause-given
returns-clause-given c = up_to_given

pub returns-clause-rises : goal.returns-clause-rises
returns-clause-rises c = rises_by_version
