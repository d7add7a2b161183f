-- The law of versions.
use Rattle.law_commit.proofs.OfVersions.Life.{cells_between, cells_from, cells_upto, keeps_versions, reserves_from_upto, sees_older}
use Rattle.law_commit.proofs.OfVersions.Requests.{life_requests}
use Rattle.law_commit.proofs.OfVersions.Reserves.{life_reserves_its}
use Rattle.law_commit.proofs.versions.law_versions_bounded.Goals as goal

pub returns : goal.returns
returns c = record {
  requests = life_requests;
  reserves = life_reserves_its;
  between = reserves_from_upto;
  cells = cells_upto;
  always = cells_between;
  from_first = cells_from;
  keeps = keeps_versions;
  older = sees_older;
}
