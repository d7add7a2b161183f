-- The law, part by part.
use Rattle.law_opening.proofs.OfLives.IndexOpens.{index_of, index_opens}
use Rattle.law_opening.proofs.lives.law_index_opens.Goals as goal

pub returns-clause-opened : goal.returns-clause-opened
returns-clause-opened c = λ o n bytes its. index_opens o n bytes its

pub returns-clause-entries : goal.returns-clause-entries
returns-clause-entries c = λ o n its. index_of o n its
