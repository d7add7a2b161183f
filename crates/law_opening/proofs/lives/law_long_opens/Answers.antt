-- The law, by what tells the blocks of two shapes apart.
use Rattle.law_opening.proofs.OfLives.LongOpens.{long_opens, reaches_alike}
use Rattle.law_opening.proofs.lives.law_long_opens.Goals as goal

pub returns-clause-behind : goal.returns-clause-behind
returns-clause-behind c = λ bytes o far store. long_opens c.law_spellings_apart.ensures.shapes bytes o far store

pub returns-clause-created : goal.returns-clause-created
returns-clause-created c = λ shape image made. record { newest = made.newest; its = made.told; long = made.long }

pub returns-clause-forgotten : goal.returns-clause-forgotten
returns-clause-forgotten c = λ image other agree far. reaches_alike image other (c.law_forgotten_agree.ensures image other agree).front agree.long far
