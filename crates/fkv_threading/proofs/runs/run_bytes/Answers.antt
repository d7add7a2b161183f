-- A script that threads serve is run; else a line's fault is told.
use Rattle.fkv_threading.proofs.Program.{bytes_refused, refusal_breaks, result_breaks, result_runs}
use Rattle.fkv_threading.specs.Program.{IsEndIn}
use Rattle.fkv_threading.specs.Refused.{IsEndInFile, IsEndInMemory, WithSomeTrouble}
use Rattle.fkv_lines.specs.Reading.{script_text}
use Rattle.fkv_threading.proofs.runs.run_bytes.Goals as goal

pub returns-in-Ok-clause-whole : goal.returns-in-Ok-clause-whole
returns-in-Ok-clause-whole g c =
    result_runs (IsEndIn (IsEndInMemory _ _) (WithSomeTrouble (IsEndInFile _ _ _ _ _)) _) c.args.bytes.now (script_text c.in-Ok.script) _ _ c.run_told.result (record { said = c.in-Ok.ensures.read; served = c.in-Ok.ensures.served }) c.run_told.ensures.whole

pub returns-in-Ok-clause-part : goal.returns-in-Ok-clause-part
returns-in-Ok-clause-part g c =
    result_breaks (IsEndIn (IsEndInMemory _ _) (WithSomeTrouble (IsEndInFile _ _ _ _ _)) _) c.args.bytes.now (script_text c.in-Ok.script) _ _ c.run_told.result (record { said = c.in-Ok.ensures.read; served = c.in-Ok.ensures.served }) c.run_told.ensures.part

pub returns-in-Err-clause-whole : goal.returns-in-Err-clause-whole
returns-in-Err-clause-whole g c = bytes_refused (IsEndIn (IsEndInMemory _ _) (WithSomeTrouble (IsEndInFile _ _ _ _ _)) _) c.args.bytes.now c.in-Err.fault _ _ c.refuse_script.result c.in-Err.ensures.refused c.refuse_script.ensures.whole

pub returns-in-Err-clause-part : goal.returns-in-Err-clause-part
returns-in-Err-clause-part g c = refusal_breaks (IsEndIn (IsEndInMemory _ _) (WithSomeTrouble (IsEndInFile _ _ _ _ _)) _) c.args.bytes.now c.in-Err.fault _ _ c.refuse_script.result c.in-Err.ensures.refused c.refuse_script.ensures.part
