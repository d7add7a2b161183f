-- The law, part by part.
use Rattle.law_opening.proofs.OfLives.LatchesOpen.{latches_open}
use Rattle.law_opening.proofs.lives.law_latches_open.Goals as goal

pub returns : goal.returns
returns c = λ o n its. latches_open o n its
