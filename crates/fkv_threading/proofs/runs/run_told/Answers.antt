-- What is written is the run of the script; of its trouble nothing more is said.
use Rattle.fkv_threading.specs.Program.{IsEndIn}
use Rattle.fkv_threading.specs.Refused.{IsEndInFile, IsEndInMemory, WithSomeTrouble}
use Rattle.fkv_threading.proofs.Refused.{with_some_trouble}
use Rattle.fkv_threading.proofs.Written.{run_weaker}
use Rattle.fkv_threading.proofs.runs.run_told.Goals as goal

pub returns-clause-whole : goal.returns-clause-whole
returns-clause-whole g c =
    let lines = c.args.script.now.lines.items in let its = c.in_ok-status in
    run_weaker (IsEndIn (IsEndInMemory _ _) (IsEndInFile _ _ _ _ _ its.trouble) _ lines) (IsEndIn (IsEndInMemory _ _) (WithSomeTrouble (IsEndInFile _ _ _ _ _)) _ lines) _ _ c.args.script.now.opening its.status
    (with_some_trouble (IsEndInMemory _ _) (IsEndInFile _ _ _ _ _) its.trouble _ lines) (λ text wrote. wrote) c.in_ok-status.ensures.whole
