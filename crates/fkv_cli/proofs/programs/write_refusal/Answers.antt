use Rattle.std.proofs.Common.{refl}
use Rattle.fkv_cli.proofs.Appending.{when_err}
use Rattle.fkv_cli.proofs.Words.{refusal_kept}
use Rattle.fkv_runs.proofs.Shown.{appends_kept}
use Rattle.fkv_cli.proofs.programs.write_refusal.Goals as goal

pub returns-in_err-flush-clause-part : goal.returns-in_err-flush-clause-part
returns-in_err-flush-clause-part g c =
    when_err c.from_residual-in_err-flush.result
    (refusal_kept c.args.fault.now g.W.Write.contents _ _ _ _ c.in_ok-status.ensures.whole.1 c.in_ok-status.ensures.whole.2 refl c.in_err-flush.ensures.bytes)

pub returns-clause-whole : goal.returns-clause-whole
returns-clause-whole g c =
    (c.in_ok-status.ensures.whole.0, c.in_ok-status.ensures.whole.1, appends_kept _ _ _ _ c.in_ok-status.ensures.whole.2 c.in_ok-flush.ensures.bytes)
