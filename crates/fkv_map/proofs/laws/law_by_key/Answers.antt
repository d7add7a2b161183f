use Rattle.fkv_map.proofs.Keys.{content_by_key, legal_each, legal_by_key}
use Rattle.fkv_map.proofs.laws.law_by_key.Goals as goal

pub returns-clause-content : goal.returns-clause-content
returns-clause-content c = content_by_key

pub returns-clause-legal : goal.returns-clause-legal
returns-clause-legal c = λ m history. (legal_each m history, legal_by_key m history)
