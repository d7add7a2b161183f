use Rattle.std.proofs.Common.{subst}
use Rattle.std.proofs.lemmas.Result.{IfOk-weaker, on_err_weaker}
use Rattle.fkv_lines.specs.Reading.{TellsFault}
use Rattle.fkv_lines.specs.Script.{script_of}
use Rattle.fkv_lines.specs.declared.scripts.Mode.{Mode}
use Rattle.fkv_cli.proofs.Words.{ends_by, fault_breaks, fault_told}
use Rattle.fkv_cli.proofs.programs.run_text.Goals as goal

pub returns-in-Err-clause-whole : goal.returns-in-Err-clause-whole
returns-in-Err-clause-whole g c =
    let told = subst (λ (mode : Mode). TellsFault (script_of mode c.args.bytes.now) c.in-Err.fault) c.mode_for.ensures c.in-Err.ensures in
    IfOk-weaker c.print_fault.result _ _
    (λ status h. fault_told _ c.args.options.now _ c.ending_by.result status _ _ (ends_by _ c.in-Err.fault c.ending_by.result told c.ending_by.ensures) h.0 h.1 h.2)
    c.print_fault.ensures.whole

pub returns-in-Err-clause-part : goal.returns-in-Err-clause-part
returns-in-Err-clause-part g c =
    let told = subst (λ (mode : Mode). TellsFault (script_of mode c.args.bytes.now) c.in-Err.fault) c.mode_for.ensures c.in-Err.ensures in
    on_err_weaker c.print_fault.result
    (fault_breaks _ c.args.options.now _ c.ending_by.result _ _ (ends_by _ c.in-Err.fault c.ending_by.result told c.ending_by.ensures))
    c.print_fault.ensures.part
