-- The run of the bytes is what is written, and a flush keeps it.
use Rattle.fkv_threading.proofs.Program.{input_breaks, input_flush_fails, input_runs, input_unread, unread_breaks}
use Rattle.fkv_threading.proofs.Written.{when_err}
use Rattle.fkv_threading.specs.Program.{IsEndIn}
use Rattle.fkv_threading.specs.Refused.{IsEndInFile, IsEndInMemory, WithSomeTrouble}
use Rattle.fkv_threading.proofs.runs.run.Goals as goal

pub returns-in_err-status-in-Ok-clause-part : goal.returns-in_err-status-in-Ok-clause-part
returns-in_err-status-in-Ok-clause-part g c =
    when_err c.from_residual.result
    (input_breaks (IsEndIn (IsEndInMemory _ _) (WithSomeTrouble (IsEndInFile _ _ _ _ _)) _) _ c.deref.result.now c.in-Ok.bytes.items _ _ c.deref.ensures.value c.in-Ok.ensures c.in_err-status-in-Ok.ensures.part)

pub returns-in_err-flush-in-Ok-clause-part : goal.returns-in_err-flush-in-Ok-clause-part
returns-in_err-flush-in-Ok-clause-part g c =
    when_err c.from_residual-in_err-flush-in-Ok.result
    (input_flush_fails (IsEndIn (IsEndInMemory _ _) (WithSomeTrouble (IsEndInFile _ _ _ _ _)) _) _ c.deref.result.now c.in-Ok.bytes.items c.in_ok-status-in-Ok.status _ _ _ c.deref.ensures.value c.in-Ok.ensures c.in_ok-status-in-Ok.ensures.whole
    c.in_err-flush-in-Ok.ensures.bytes)

pub returns-in_ok-flush-in-Ok-clause-whole : goal.returns-in_ok-flush-in-Ok-clause-whole
returns-in_ok-flush-in-Ok-clause-whole g c =
    input_runs (IsEndIn (IsEndInMemory _ _) (WithSomeTrouble (IsEndInFile _ _ _ _ _)) _) _ c.deref.result.now c.in-Ok.bytes.items c.in_ok-status-in-Ok.status _ _ _ c.deref.ensures.value c.in-Ok.ensures c.in_ok-status-in-Ok.ensures.whole
    c.in_ok-flush-in-Ok.ensures.bytes

pub returns-in-Err-clause-whole : goal.returns-in-Err-clause-whole
returns-in-Err-clause-whole g c = input_unread (IsEndIn (IsEndInMemory _ _) (WithSomeTrouble (IsEndInFile _ _ _ _ _)) _) _ _ _ c.refuse_input.result c.refuse_input.ensures.status c.refuse_input.ensures.nothing

pub returns-in-Err-clause-part : goal.returns-in-Err-clause-part
returns-in-Err-clause-part g c = unread_breaks (IsEndIn (IsEndInMemory _ _) (WithSomeTrouble (IsEndInFile _ _ _ _ _)) _) _ _ _ c.refuse_input.result c.refuse_input.ensures.nothing
