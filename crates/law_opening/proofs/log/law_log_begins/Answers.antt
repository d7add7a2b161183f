-- The law, by the words of the opened store.
use Rattle.law_opening.proofs.OfLog.Counted.{of_store}
use Rattle.law_opening.proofs.OfLog.Opens.{begins}
use Rattle.law_opening.proofs.log.law_log_begins.Goals as goal

pub returns : goal.returns
returns c = λ image o n store world. begins image o store (of_store image o store c.law_spellings_apart.ensures.records (c.law_chain_of_entry.ensures image o store)) n world
