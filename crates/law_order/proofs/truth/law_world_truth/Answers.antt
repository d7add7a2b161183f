-- The law, by what frames show and where searches end.
use Rattle.law_order.proofs.OfTruth.Truth.{words_true}
use Rattle.law_order.proofs.truth.law_world_truth.Goals as goal

pub returns : goal.returns
returns c = λ life before enabled published known look. words_true life before enabled published known look
