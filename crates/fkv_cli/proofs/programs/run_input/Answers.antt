use Rattle.fkv_cli.proofs.Appending.{when_err}
use Rattle.fkv_cli.proofs.Words.{input_breaks, input_flushed, runs_input}
use Rattle.std.proofs.Common.{refl}
use Rattle.fkv_cli.proofs.programs.run_input.Goals as goal

pub returns-in_err-status-clause-part : goal.returns-in_err-status-clause-part
returns-in_err-status-clause-part g c =
    when_err c.from_residual-in_err-status.result
    (input_breaks _ c.args.options.now _ c.deref.result.now c.in_ok-bytes.bytes.items c.deref.ensures.value c.in_ok-bytes.ensures _ _ c.in_err-status.ensures.part)

pub returns-in_err-flush-clause-part : goal.returns-in_err-flush-clause-part
returns-in_err-flush-clause-part g c =
    when_err c.from_residual-in_err-flush.result
    (input_flushed _ c.args.options.now _ c.deref.result.now c.in_ok-bytes.bytes.items c.deref.ensures.value c.in_ok-bytes.ensures _ g.W.Write.contents _ _ _ _ c.in_ok-status.ensures.whole refl
    c.in_err-flush.ensures.bytes)

pub returns-clause-whole : goal.returns-clause-whole
returns-clause-whole g c =
    runs_input _ c.args.options.now _ c.deref.result.now c.in_ok-bytes.bytes.items c.deref.ensures.value c.in_ok-bytes.ensures _ _ g.W.Write.contents _ _ _ _ c.in_ok-status.ensures.whole refl refl
    c.in_ok-flush.ensures.bytes
