use Rattle.std.proofs.Common.{subst}
use Rattle.std.specs.Prelude.{OnOk}
use Rattle.fkv_base.specs.declared.faults.Fault.{Fault}
use Rattle.fkv_opening.specs.Faults.{IsFaultOf}
use Rattle.fkv_opening_tests.proofs.paged.recover_by_pages.Goals as goal

pub returns-clause-exact : goal.returns-clause-exact
returns-clause-exact g c =
    subst (λ device. g.D.Device.honest device → OnOk c.recover-opened.result ((fault : Fault) → IsFaultOf (g.D.Device.seen device) fault → ⊥)) c.new-ahead.ensures c.recover-opened.ensures.exact
