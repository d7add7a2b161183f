-- The law, by the effect of each reply, and by what that adds to the history.
use Rattle.law_refine.proofs.OfEvents.EventEffects.{life_makes}
use Rattle.law_refine.proofs.OfEvents.RequestNames.{life_named}
use Rattle.law_refine.proofs.OfEvents.SessionEffects.{life_reads, life_takes}
use Rattle.law_refine.proofs.events.law_ghost_effects.Goals as goal

pub returns-clause-steps : goal.returns-clause-steps
returns-clause-steps c = λ opening start events session reply its opened found. life_takes opening start events session its reply opened found

pub returns-clause-events : goal.returns-clause-events
returns-clause-events c = λ opening start events event opened. life_makes opening start events event opened

pub returns-clause-reads : goal.returns-clause-reads
returns-clause-reads c = λ opening start events session reply its opened found reads. life_reads opening start events session its reply opened found reads

pub returns-clause-names : goal.returns-clause-names
returns-clause-names c = λ opening start events session its opened found. life_named opening start events session its opened found
