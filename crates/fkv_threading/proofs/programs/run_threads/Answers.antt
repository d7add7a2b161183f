-- The run of the options' file is what is written, and its status is the run's.
use Rattle.fkv_threading.specs.Program.{IsEndIn}
use Rattle.fkv_threading.specs.Refused.{IsEndInFile, IsEndInMemory, WithSomeTrouble}
use Rattle.fkv_threading.proofs.Written.{whole_breaks}
use Rattle.fkv_threading.proofs.programs.run_threads.Goals as goal

pub returns-in-Ok-clause-whole : goal.returns-in-Ok-clause-whole
returns-in-Ok-clause-whole g c other = rw (c.ended_at.ensures.status, ← c.path_of.ensures) c.in-Ok.ensures.whole

pub returns-in-Ok-clause-part : goal.returns-in-Ok-clause-part
returns-in-Ok-clause-part g c four =
    rw (← c.path_of.ensures) (whole_breaks (IsEndIn (IsEndInMemory _ _) (WithSomeTrouble (IsEndInFile _ _ _ _ _)) _ _) c.args.script.now.opening _ _ c.in-Ok.status c.in-Ok.ensures.whole)

pub returns-in-Err-clause-part : goal.returns-in-Err-clause-part
returns-in-Err-clause-part g c four = rw (← c.path_of.ensures) c.in-Err.ensures.part
