-- The law, by the world that each opened store has.
use Rattle.law_opening.proofs.OfWorlds.Worlds.{world_of, world_opens}
use Rattle.law_opening.proofs.worlds.law_world_exists.Goals as goal

pub returns : goal.returns
returns c = λ o. (world_of o, world_opens o)
