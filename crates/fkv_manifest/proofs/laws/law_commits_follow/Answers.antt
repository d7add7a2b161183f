use Rattle.fkv_manifest.proofs.Following.{finishes}
use Rattle.fkv_manifest.proofs.laws.law_commits_follow.Goals as goal

pub returns : goal.returns
returns c = λ w opened before other steps begins end. finishes w opened before other steps begins end
