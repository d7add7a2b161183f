-- The law, by what each event tells.
use Rattle.law_refine.proofs.OfCalls.UpdateLines.{event_is_enabled}
use Rattle.law_refine.proofs.calls.law_world_calls.Goals as goal

pub returns : goal.returns
returns c = λ opening before event opened. event_is_enabled opening before event opened
