use Rattle.law_commit.proofs.OfPhases.LifeStages.{life_staged}
use Rattle.law_commit.proofs.phases.law_phases_in_turn.Goals as goal

pub returns-clause-stages : goal.returns-clause-stages
returns-clause-stages c = λ opening start events guarded opened rests. let lived = life_staged opening start events guarded opened rests in record { number = lived.number; stage = lived.stage; staged = lived.staged }

pub returns-clause-rises : goal.returns-clause-rises
returns-clause-rises c = λ opening start events guarded opened rests. (life_staged opening start events guarded opened rests).rises

pub returns-clause-rests : goal.returns-clause-rests
returns-clause-rests c = λ opening start events guarded opened rests. (life_staged opening start events guarded opened rests).rests
