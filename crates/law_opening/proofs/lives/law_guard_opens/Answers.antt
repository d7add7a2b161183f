-- The law, part by part.
use Rattle.law_opening.proofs.OfLives.GuardOpens.{guard_opens}
use Rattle.law_opening.proofs.lives.law_guard_opens.Goals as goal

pub returns : goal.returns
returns c = λ o n bytes its. guard_opens o n bytes its
