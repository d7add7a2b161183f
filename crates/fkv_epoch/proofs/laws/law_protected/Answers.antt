use Rattle.fkv_epoch.specs.Once.{opening}
use Rattle.fkv_epoch.specs.EpochWorld.{epoch_run}
use Rattle.fkv_epoch.proofs.Runs.{run_sound, opening_sound}
use Rattle.fkv_epoch.proofs.Protected.{holds_no_zero, is_protected, stays_protected}
use Rattle.fkv_epoch.proofs.laws.law_protected.Goals as goal

pub returns-clause-in_hand : goal.returns-clause-in_hand
returns-clause-in_hand c = λ sessions actors words events o.
    holds_no_zero (epoch_run (opening sessions actors words) events) (run_sound (opening sessions actors words) events (opening_sound sessions actors words o))

pub returns-clause-protected : goal.returns-clause-protected
returns-clause-protected c = λ sessions actors words events o.
    is_protected (epoch_run (opening sessions actors words) events) (run_sound (opening sessions actors words) events (opening_sound sessions actors words o))

pub returns-clause-stays : goal.returns-clause-stays
returns-clause-stays c = λ sessions actors words events event o.
    stays_protected (epoch_run (opening sessions actors words) events) event (run_sound (opening sessions actors words) events (opening_sound sessions actors words o))
