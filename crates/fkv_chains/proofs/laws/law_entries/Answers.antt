use Rattle.fkv_chains.proofs.Entering.{has_entry}
use Rattle.fkv_chains.proofs.laws.law_entries.Goals as goal

pub returns : goal.returns
returns c = λ log told in_log are chains its_home entry is. has_entry c.law_spellings_apart.ensures.records log chains in_log told are its_home entry is
