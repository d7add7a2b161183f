-- The law, by what takes effect by each event.
use Rattle.law_refine.proofs.OfCalls.LifeHistory.{life_entries}
use Rattle.law_refine.proofs.OfCalls.SameHistory.{same_history}
use Rattle.law_refine.proofs.calls.law_ghost_history.Goals as goal

pub returns-clause-entries : goal.returns-clause-entries
returns-clause-entries c = λ opening start ghosts events opened guarded unborn free none meets. life_entries opening start ghosts events opened guarded unborn free none meets

pub returns-clause-history : goal.returns-clause-history
returns-clause-history c = λ opening start ghosts events opened guarded unborn free none meets. same_history _ _ (life_entries opening start ghosts events opened guarded unborn free none meets)
