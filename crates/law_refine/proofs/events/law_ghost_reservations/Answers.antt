-- The law, by how each reply moves a session, and by what the guard keeps of undecided addresses.
use Rattle.law_refine.proofs.OfEvents.Apart.{reserved_apart, reserved_open}
use Rattle.law_refine.proofs.OfEvents.SessionSteps.{life_on}
use Rattle.law_refine.proofs.events.law_ghost_reservations.Goals as goal

pub returns-clause-moves : goal.returns-clause-moves
returns-clause-moves c = λ opening start events session reply its opened found. life_on opening start events session its reply opened found

pub returns-clause-apart : goal.returns-clause-apart
returns-clause-apart c = λ opening start events opened. reserved_apart opening start events opened

pub returns-clause-open : goal.returns-clause-open
returns-clause-open c = λ opening start events opened. reserved_open opening start events opened
