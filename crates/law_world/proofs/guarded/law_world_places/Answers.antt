-- The law, by what each machine is at.
use Rattle.law_world.proofs.OfGuarded.WordsWithin.{life_keeper_within, life_session_within}
use Rattle.law_world.proofs.guarded.law_world_places.Goals as goal

pub returns-clause-session : goal.returns-clause-session
returns-clause-session c = λ first start events number place its opened there named. life_session_within first start events number place its opened there named

pub returns-clause-keeper : goal.returns-clause-keeper
returns-clause-keeper c = λ first start events place opened few named. life_keeper_within first start events place opened few named
