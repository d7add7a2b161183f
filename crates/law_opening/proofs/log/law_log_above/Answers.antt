-- The law, by what counts.
use Rattle.law_opening.proofs.OfLog.Counted.{cell_begun, of_store}
use Rattle.law_opening.proofs.log.law_log_above.Goals as goal

pub returns : goal.returns
returns c = λ image o store. cell_begun image o store (of_store image o store c.law_spellings_apart.ensures.records (c.law_chain_of_entry.ensures image o store))
