-- The law, event by event.
use Rattle.law_answers.proofs.OfEffects.Told.{behind, kept}
use Rattle.law_answers.proofs.effects.law_effects_told.Goals as goal

pub returns-clause-behind : goal.returns-clause-behind
returns-clause-behind c = λ opening start before event opened store. behind c.law_world_slots.ensures.session opening start before event opened store

pub returns-clause-kept : goal.returns-clause-kept
returns-clause-kept c = λ opening start events opened store. kept c.law_world_slots.ensures.session opening start events opened store
