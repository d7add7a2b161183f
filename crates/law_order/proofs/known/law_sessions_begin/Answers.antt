-- The law, of sessions of an opened store.
use Rattle.law_order.proofs.OfKnown.Begun.{begun_known}
use Rattle.law_order.proofs.known.law_sessions_begin.Goals as goal

pub returns : goal.returns
returns c = λ life. begun_known life
