-- The law, by what the log has.
use Rattle.law_opening.proofs.OfLog.Counted.{of_store}
use Rattle.law_opening.proofs.OfLog.Opens.{is_opened, same_map_of, shows_value}
use Rattle.law_opening.proofs.log.law_log_opened.Goals as goal

pub returns-clause-values : goal.returns-clause-values
returns-clause-values c = λ image o store key value. shows_value image o store (of_store image o store c.law_spellings_apart.ensures.records (c.law_chain_of_entry.ensures image o store)) key.0 value.0

pub returns-clause-opened : goal.returns-clause-opened
returns-clause-opened c = λ image o store. is_opened image o store (of_store image o store c.law_spellings_apart.ensures.records (c.law_chain_of_entry.ensures image o store))

pub returns-clause-pairs : goal.returns-clause-pairs
returns-clause-pairs c = λ image o store pairs are. same_map_of image o store (of_store image o store c.law_spellings_apart.ensures.records (c.law_chain_of_entry.ensures image o store)) pairs are
