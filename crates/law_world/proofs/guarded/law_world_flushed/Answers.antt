-- The law, by what the guard's world shows of a life.
use Rattle.law_world.proofs.OfGuarded.Flushed.{life_synced, life_steady}
use Rattle.law_world.proofs.guarded.law_world_flushed.Goals as goal

pub returns-clause-synced : goal.returns-clause-synced
returns-clause-synced c = λ first start events opened fits permitted. life_synced first start events opened fits permitted

pub returns-clause-steady : goal.returns-clause-steady
returns-clause-steady c = λ first start events event addr word fits permitted below. life_steady first start events event addr word fits permitted below
