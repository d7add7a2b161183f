-- The law, by what a session is told and by where it stands in the guard's world.
use Rattle.law_refine.proofs.OfSeen.Alone.{moves_alone}
use Rattle.law_refine.proofs.OfSeen.Ops.{life_op_kept}
use Rattle.law_refine.proofs.seen.law_calls_in_hand.Goals as goal

pub returns-clause-op : goal.returns-clause-op
returns-clause-op c = λ opening start events session s opened found. life_op_kept opening start events session s opened found

pub returns-clause-alone : goal.returns-clause-alone
returns-clause-alone c = λ opening start events session s opened found busy alone. moves_alone opening start events session s opened found busy alone
