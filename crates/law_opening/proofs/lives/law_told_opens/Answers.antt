-- The law, part by part.
use Rattle.law_opening.proofs.OfLives.ToldOpens.{told_opens}
use Rattle.law_opening.proofs.lives.law_told_opens.Goals as goal

pub returns : goal.returns
returns c = λ bytes o n from. told_opens bytes o n from
