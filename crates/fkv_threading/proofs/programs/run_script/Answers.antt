-- What is written is the report of the run, or a refusal, or a beginning of that.
use Rattle.std.proofs.Common.{◌≡◌, Some, rules}
use Rattle.fkv_lines.specs.declared.scripts.Opening.TheVariants as openings
use Rattle.fkv_threading.specs.Program.{IsEndIn}
use Rattle.fkv_threading.specs.Refused.{IsEndInFile, IsEndInMemory, WithSomeTrouble}
use Rattle.fkv_threading.proofs.Refused.{with_some_trouble}
use Rattle.fkv_threading.proofs.Written.{run_breaks, run_written, when_err}
use Rattle.fkv_threading.proofs.programs.run_script.Goals as goal

pub returns-clause-whole : goal.returns-clause-whole
returns-clause-whole g c =
    let is : c.args.script.now.opening ≡ Some (openings.Shape c.in-Some-Shape.sizes) = search rules in
    let told = c.end_of_run-reported.result in
    run_written (IsEndIn (IsEndInMemory _ _) (IsEndInFile _ _ _ _ _ told.1) _) c.args.script.now.lines.items c.deref.result.now c.args.script.now.opening c.in-Some-Shape.sizes _ c.in_ok-status.status told.0 is c.deref.ensures.value
    c.end_of_run-reported.ensures c.in_ok-status.ensures.text c.in_ok-status.ensures.status

pub returns-in_err-status-clause-part : goal.returns-in_err-status-clause-part
returns-in_err-status-clause-part g c =
    let is : c.args.script.now.opening ≡ Some (openings.Shape c.in-Some-Shape.sizes) = search rules in
    let told = c.end_of_run-reported.result in
    when_err c.from_residual.result
    (run_breaks (IsEndIn (IsEndInMemory _ _) (WithSomeTrouble (IsEndInFile _ _ _ _ _)) _) c.args.script.now.lines.items c.deref.result.now c.args.script.now.opening c.in-Some-Shape.sizes _ _ told.0 is c.deref.ensures.value
    (with_some_trouble (IsEndInMemory _ _) (IsEndInFile _ _ _ _ _) told.1 _ c.deref.result.now c.in-Some-Shape.sizes told.0 c.end_of_run-reported.ensures) c.in_err-status.ensures.part)
