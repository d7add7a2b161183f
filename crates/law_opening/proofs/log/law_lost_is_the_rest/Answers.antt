-- The law, by the ranges in hand.
use Rattle.law_opening.proofs.OfLog.Counted.{of_store}
use Rattle.law_opening.proofs.OfLog.Left.{loses_the_rest}
use Rattle.law_opening.proofs.log.law_lost_is_the_rest.Goals as goal

pub returns : goal.returns
returns c = λ image o store. loses_the_rest image o store (of_store image o store c.law_spellings_apart.ensures.records (c.law_chain_of_entry.ensures image o store))
