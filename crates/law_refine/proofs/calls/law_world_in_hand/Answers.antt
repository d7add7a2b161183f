-- The law, by what the session stands to and by its effects so far.
use Rattle.law_refine.proofs.OfCalls.InHand.{effect_in_hand}
use Rattle.law_refine.proofs.calls.law_world_in_hand.Goals as goal

pub returns : goal.returns
returns c = λ opening before event its opened from. effect_in_hand opening before event its opened from
