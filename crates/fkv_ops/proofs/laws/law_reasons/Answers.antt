-- What a try ends with was found by it.
use Rattle.fkv_ops.proofs.LatchRuns.{each_holds, each_leaves}
use Rattle.fkv_ops.proofs.Effected.{effects_true, each_may_stay, shares_first, kinds_so}
use Rattle.fkv_ops.proofs.TryRuns.{each_is_true, effects_once, latches_kept}
use Rattle.fkv_ops.proofs.EachAsk.{each_ask}
use Rattle.fkv_ops.proofs.SpareRuns.{each_tells_spare, each_uses_spare}
use Rattle.fkv_ops.proofs.laws.law_reasons.Goals as goal

pub returns-clause-kinds : goal.returns-clause-kinds
returns-clause-kinds c = kinds_so

pub returns-clause-reasons : goal.returns-clause-reasons
returns-clause-reasons c = each_is_true

pub returns-clause-once : goal.returns-clause-once
returns-clause-once c = effects_once

pub returns-clause-latches : goal.returns-clause-latches
returns-clause-latches c = latches_kept

pub returns-clause-effects : goal.returns-clause-effects
returns-clause-effects c = effects_true

pub returns-clause-shares : goal.returns-clause-shares
returns-clause-shares c = shares_first

pub returns-clause-stays : goal.returns-clause-stays
returns-clause-stays c = each_may_stay

pub returns-clause-holds : goal.returns-clause-holds
returns-clause-holds c = each_holds

pub returns-clause-leaves : goal.returns-clause-leaves
returns-clause-leaves c = each_leaves

pub returns-clause-asks : goal.returns-clause-asks
returns-clause-asks c = each_ask

pub returns-clause-spare : goal.returns-clause-spare
returns-clause-spare c = each_tells_spare

pub returns-clause-links : goal.returns-clause-links
returns-clause-links c = each_uses_spare
