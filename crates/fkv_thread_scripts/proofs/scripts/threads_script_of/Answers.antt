-- Why no script is given.
use Rattle.std.proofs.Common.{◌∙◌, ap, sym, refl, false, List}
use Rattle.fkv_lines.specs.Reading.{script_text}
use Rattle.fkv_lines.specs.declared.scripts.Line.{Line}
use Rattle.fkv_thread_scripts.specs.Served.{are_served}
use Rattle.fkv_thread_scripts.proofs.Served.{refused_else, refused_first, refused_mode}
use Rattle.fkv_thread_scripts.proofs.scripts.threads_script_of.Goals as goal

pub returns-in-Some-clause-refused : goal.returns-in-Some-clause-refused
returns-in-Some-clause-refused c =
    refused_mode c.args.bytes.now (script_text c.in-Ok.script) c.at_line.result c.in-Ok.ensures (ap (λ (ls : List Line). are_served false ls) (sym c.deref.ensures.value) ∙ c.in-Some.ensures.some refl) c.at_line.ensures

pub returns-in-Err-Script-clause-refused : goal.returns-in-Err-Script-clause-refused
returns-in-Err-Script-clause-refused c =
    refused_first c.args.bytes.now c.in-Err-Script.field-0 c.first_fault.result c.in-Err-Script.line c.in-Err-Script.kind c.in-Err-Script.field-0-is c.in-Err-Script.ensures c.first_fault.ensures

pub returns-in-Err-clause-refused : goal.returns-in-Err-clause-refused
returns-in-Err-clause-refused c = refused_else c.args.bytes.now c.in-Err.fault c.in-Err.ensures
