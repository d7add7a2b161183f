use Rattle.std.proofs.Common.{rules, ◌∙◌}
use Rattle.fkv_runs.proofs.Foretelling.{crashes_behind_reads, crashes_behind_sync}
use Rattle.fkv_runs.proofs.Recovery.{cause_of_refusal, none_behind_reads, none_behind_sync, recovered_before}
use Rattle.fkv_runs.proofs.crashes.recover_image.Goals as goal

pub returns-in_err-opened-clause-cause : goal.returns-in_err-opened-clause-cause
returns-in_err-opened-clause-cause g c = λ honest.
    let cause = cause_of_refusal (g.D.Device.seen c.args.device) (g.D.Device.failed c.args.device) (g.D.Device.failed c.recover.new.d) (g.D.Device.honest c.args.device) c.in_err-opened.field-0.0 c.in_err-opened.ensures.err honest in
    search (rules, cause)

pub returns-clause-store : goal.returns-clause-store
returns-clause-store g c = λ honest.
    let quiet = c.recover.ensures.quiet in
    recovered_before _ _ _ _ (quiet.same_bytes honest) (c.in_ok-opened.ensures.ok honest) (c.in_ok-pairs.ensures.ok (quiet.premise.0 honest))

pub returns-clause-reads : goal.returns-clause-reads
returns-clause-reads g c = λ honest none.
    let quiet = c.recover.ensures.quiet in
    let later = c.content.ensures.quiet in
    let still = quiet.premise.0 honest in
    let none_behind = none_behind_sync _ _ _ _ c.recover.ensures.asked none in
    record {
      is_honest = later.premise.0 still;
      reads = later.same_bytes still ∙ quiet.same_bytes honest;
      synced = λ image left. c.in_ok-opened.ensures.synced honest image (later.leaves_no_more still image left);
      sound = none_behind_reads _ _ _ _ c.content.ensures.reads none_behind;
    }

pub returns-clause-crashes : goal.returns-clause-crashes
returns-clause-crashes g c = λ image from. crashes_behind_reads _ _ image _ _ c.content.ensures.reads (crashes_behind_sync _ _ image _ _ c.recover.ensures.asked from)
