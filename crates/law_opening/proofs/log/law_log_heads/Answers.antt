-- The law, by the entries of the opened index.
use Rattle.law_opening.proofs.OfLog.Counted.{of_store}
use Rattle.law_opening.proofs.OfLog.Heads.{lead_to_heads}
use Rattle.law_opening.proofs.log.law_log_heads.Goals as goal

pub returns : goal.returns
returns c = λ image o n store world. lead_to_heads image o store (of_store image o store c.law_spellings_apart.ensures.records (c.law_chain_of_entry.ensures image o store)) n (c.law_index_opens.ensures.entries o n world)
