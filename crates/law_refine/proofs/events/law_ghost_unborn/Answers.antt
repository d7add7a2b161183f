-- The law, by what each event takes, and that the tail never falls.
use Rattle.law_refine.proofs.OfEvents.Unborn.{ghost_unborn}
use Rattle.law_refine.proofs.events.law_ghost_unborn.Goals as goal

pub returns : goal.returns
returns c = λ opening start ghosts events opened none. ghost_unborn opening start ghosts events opened none
