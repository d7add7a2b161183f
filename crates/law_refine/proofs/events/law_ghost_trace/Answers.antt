-- The law, by the lines that each event tells.
use Rattle.law_refine.proofs.OfEvents.Trace.{ghost_trace}
use Rattle.law_refine.proofs.events.law_ghost_trace.Goals as goal

pub returns : goal.returns
returns c = λ opening ghosts events opened untold. ghost_trace opening ghosts events opened.no_trace untold
