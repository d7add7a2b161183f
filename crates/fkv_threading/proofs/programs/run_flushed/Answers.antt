-- What was written stays behind the flush.
use Rattle.fkv_threading.specs.Program.{IsEndIn}
use Rattle.fkv_threading.specs.Refused.{IsEndInFile, IsEndInMemory, WithSomeTrouble}
use Rattle.fkv_threading.proofs.Refused.{with_some_trouble}
use Rattle.fkv_threading.proofs.Written.{run_flushed, run_weaker, when_err, whole_breaks}
use Rattle.fkv_threading.proofs.programs.run_flushed.Goals as goal

pub returns-in_err-flush-clause-part : goal.returns-in_err-flush-clause-part
returns-in_err-flush-clause-part g c =
    let lines = c.args.script.now.lines.items in let opening = c.args.script.now.opening in let status = c.in_ok-status.status in let trouble = c.in_ok-status.field-0-1 in
    when_err c.from_residual-in_err-flush.result
    (whole_breaks (IsEndIn (IsEndInMemory _ _) (WithSomeTrouble (IsEndInFile _ _ _ _ _)) _ lines) opening _ _ status
    (run_flushed (IsEndIn (IsEndInMemory _ _) (WithSomeTrouble (IsEndInFile _ _ _ _ _)) _ lines) opening status _ _ _
    (run_weaker (IsEndIn (IsEndInMemory _ _) (IsEndInFile _ _ _ _ _ trouble) _ lines) (IsEndIn (IsEndInMemory _ _) (WithSomeTrouble (IsEndInFile _ _ _ _ _)) _ lines) _ _ opening status
    (with_some_trouble (IsEndInMemory _ _) (IsEndInFile _ _ _ _ _) trouble _ lines) (λ text wrote. wrote) c.in_ok-status.ensures.whole) c.in_err-flush.ensures.bytes))

pub returns-clause-whole : goal.returns-clause-whole
returns-clause-whole g c =
    let lines = c.args.script.now.lines.items in let opening = c.args.script.now.opening in let status = c.in_ok-status.status in let trouble = c.in_ok-status.field-0-1 in
    run_flushed (IsEndIn (IsEndInMemory _ _) (WithSomeTrouble (IsEndInFile _ _ _ _ _)) _ lines) opening status _ _ _
    (run_weaker (IsEndIn (IsEndInMemory _ _) (IsEndInFile _ _ _ _ _ trouble) _ lines) (IsEndIn (IsEndInMemory _ _) (WithSomeTrouble (IsEndInFile _ _ _ _ _)) _ lines) _ _ opening status
    (with_some_trouble (IsEndInMemory _ _) (IsEndInFile _ _ _ _ _) trouble _ lines) (λ text wrote. wrote) c.in_ok-status.ensures.whole) c.in_ok-flush.ensures.bytes
