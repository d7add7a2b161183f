-- The image is refused as recovery refuses it.
use Rattle.std.proofs.Common.{[]}
use Rattle.fkv_posted.specs.Outcomes.{AreOutcomes}
use Rattle.fkv_posted.specs.Posting.{with_told}
use Rattle.fkv_posted.proofs.Shown.{never_failed}
use Rattle.fkv_handles.proofs.Refused.{refused_by}
use Rattle.fkv_handles.proofs.opening.opened_from.Goals as goal

pub returns-in-Err-clause-refused : goal.returns-in-Err-clause-refused
returns-in-Err-clause-refused c =
    let p = c.new-shown.result in
    let err = rw c.new-shown.ensures.outcomes at c.in-Err.ensures.err in
    let asked = c.in-Err.ensures.asked in
    let none = never_failed asked.reads asked.synced p.shown c.recover_warm.new.d.shown p.failures c.recover_warm.new.d.failures _ c.new-shown.ensures.shown c.new-shown.ensures.failures asked.kinds in
    rw (← c.new-shown.ensures.opened)
    (refused_by p.failures c.recover_warm.new.d.failures (AreOutcomes p.log.opened (with_told p.failures p.told [])) p.log.opened c.in-Err.why (rw (c.new-shown.ensures.failures, c.new-shown.ensures.told) tt) none err)
