-- The law, by what a session has loaded at each moment.
use Rattle.law_refine.proofs.OfSeen.Lives.{head_rises, life_head_fixed}
use Rattle.law_refine.proofs.seen.law_world_seen_rises.Goals as goal

pub returns-clause-fixed : goal.returns-clause-fixed
returns-clause-fixed c = λ opening start ghosts events session s opened same found. life_head_fixed opening start ghosts events session s opened same found

pub returns-clause-rises : goal.returns-clause-rises
returns-clause-rises c = λ opening start before event session s after opened was is_now. head_rises opening start before event session s after opened was is_now
