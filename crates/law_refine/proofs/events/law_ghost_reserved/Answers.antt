-- The law, by what each event reserves, publishes and gives up.
use Rattle.law_refine.proofs.OfEvents.ReservedLife.{life_reserved, life_sessions, life_meets}
use Rattle.law_refine.proofs.events.law_ghost_reserved.Goals as goal

pub returns-clause-reserved : goal.returns-clause-reserved
returns-clause-reserved c = λ opening start ghosts events opened none free. life_reserved opening start ghosts events opened none free

pub returns-clause-sessions : goal.returns-clause-sessions
returns-clause-sessions c = λ opening start ghosts events opened none free. life_sessions opening start ghosts events opened none free

pub returns-clause-meets : goal.returns-clause-meets
returns-clause-meets c = λ opening start ghosts events opened none free. life_meets opening start ghosts events opened none free
