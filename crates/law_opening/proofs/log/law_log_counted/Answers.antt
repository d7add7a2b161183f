-- The law, by the chains of the entries.
use Rattle.law_opening.proofs.OfLog.Counted.{has_what_counts, of_store}
use Rattle.law_opening.proofs.log.law_log_counted.Goals as goal

pub returns : goal.returns
returns c = λ image o store. has_what_counts image o store (of_store image o store c.law_spellings_apart.ensures.records (c.law_chain_of_entry.ensures image o store))
