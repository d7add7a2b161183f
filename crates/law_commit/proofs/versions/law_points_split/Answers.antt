-- The law of points by versions.
use Rattle.law_commit.proofs.OfVersions.History.{effects_so}
use Rattle.law_commit.proofs.OfVersions.Points.{point_splits}
use Rattle.law_commit.proofs.versions.law_points_split.Goals as goal

pub returns : goal.returns
returns c = record { effects = effects_so; points = point_splits }
