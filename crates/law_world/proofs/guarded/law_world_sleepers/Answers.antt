-- Who sleeps has stored 0, and nobody else stores its epoch word.
use Rattle.law_world.proofs.OfGuarded.Sleepers.{life_zero}
use Rattle.law_world.proofs.guarded.law_world_sleepers.Goals as goal

pub returns : goal.returns
returns c = λ opening start events session first its opened was now_is asleep other. life_zero opening start events session first its opened was now_is asleep other
