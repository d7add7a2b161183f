-- The law, by what fuses foretell.
use Rattle.law_calls.proofs.Telling.{stands_behind}
use Rattle.law_calls.proofs.laws.law_of_standing_fuses.Goals as goal

pub returns : goal.returns
returns c = λ was is met has lets. stands_behind was is met lets has.foretells
