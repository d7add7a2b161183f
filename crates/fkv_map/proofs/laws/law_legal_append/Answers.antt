use Rattle.fkv_map.proofs.Histories.{IsLegal-append, IsLegal-earlier, IsLegal-later}
use Rattle.fkv_map.proofs.laws.law_legal_append.Goals as goal

pub returns : goal.returns
returns c = λ m earlier later. (λ all. (IsLegal-earlier m earlier later all, IsLegal-later m earlier later all), λ both. IsLegal-append m earlier later both.0 both.1)
