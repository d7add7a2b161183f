-- What the search for points tells.
use Rattle.fkv_commit.proofs.CutsRead.{read, others, by_parity}
use Rattle.fkv_commit.proofs.SeekTold.{seeks_end, points_right}
use Rattle.fkv_commit.proofs.laws.law_of_points.Goals as goal

pub returns-clause-reads : goal.returns-clause-reads
returns-clause-reads c = read

pub returns-clause-others : goal.returns-clause-others
returns-clause-others c = others

pub returns-clause-ends : goal.returns-clause-ends
returns-clause-ends c = seeks_end

pub returns-clause-points : goal.returns-clause-points
returns-clause-points c = points_right

pub returns-clause-parity : goal.returns-clause-parity
returns-clause-parity c = by_parity
