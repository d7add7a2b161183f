-- Each step takes or leaves.
use Rattle.fkv_log.proofs.Reserved.{taken_or_left}
use Rattle.fkv_log.proofs.laws.law_reserve_step.Goals as goal

pub returns : goal.returns
returns c = taken_or_left
