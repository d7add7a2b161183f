use Rattle.fkv_map.proofs.Histories.{content-append}
use Rattle.fkv_map.proofs.laws.law_content_append.Goals as goal

pub returns : goal.returns
returns c = content-append
