use Rattle.fkv_pairs.specs.Pairs.{log_of_store}
use Rattle.fkv_pairs.proofs.Faultless.{is_faultless}
use Rattle.fkv_pairs.proofs.Chained.{is_chain_of}
use Rattle.fkv_pairs.proofs.laws.law_chain_of_entry.Goals as goal

pub returns : goal.returns
returns c = λ image opened store its_home entry is.
    is_chain_of c.law_spellings_apart.ensures.records (log_of_store image opened store) (is_faultless image opened store) its_home entry is
