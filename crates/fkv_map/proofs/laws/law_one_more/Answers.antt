use Rattle.fkv_map.proofs.Histories.{IsLegal-earlier}
use Rattle.fkv_map.proofs.Keys.{content_one_more, legal_one_more, reply_of_last}
use Rattle.std.specs.Prelude.{[], ◌∷◌}
use Rattle.fkv_map.proofs.laws.law_one_more.Goals as goal

pub returns-clause-content : goal.returns-clause-content
returns-clause-content c = content_one_more

pub returns-clause-legal : goal.returns-clause-legal
returns-clause-legal c = λ m earlier entry. (λ all. (IsLegal-earlier m earlier (entry ∷ []) all, reply_of_last m earlier entry all), λ both. legal_one_more m earlier entry both.0 both.1)
