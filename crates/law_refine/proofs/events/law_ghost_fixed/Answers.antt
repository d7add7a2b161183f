-- The law, by what each event fixes, and that the offset never falls.
use Rattle.law_refine.proofs.OfEvents.Fixed.{ghost_fixed}
use Rattle.law_refine.proofs.events.law_ghost_fixed.Goals as goal

pub returns : goal.returns
returns c = λ opening start ghosts events opened same. ghost_fixed opening start ghosts events opened same
