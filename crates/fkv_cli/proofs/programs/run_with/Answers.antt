use Rattle.std.proofs.Common.{◌∙◌, ap, sym}
use Rattle.fkv_disk.specs.Memory.{disk_bytes, disk_calls, disk_opening}
use Rattle.fkv_runs.proofs.Shown.{crashes_of_new}
use Rattle.fkv_cli.specs.Output.{IsRunOfInput}
use Rattle.fkv_cli.proofs.Words.{ends_at_4}
use Rattle.fkv_cli.proofs.programs.run_with.Goals as goal

pub returns-in-Ok-clause-whole : goal.returns-in-Ok-clause-whole
returns-in-Ok-clause-whole g c other = rw c.ended_with.ensures.status c.in-Ok.ensures.whole

pub returns-in-Ok-clause-part : goal.returns-in-Ok-clause-part
returns-in-Ok-clause-part g c four = ends_at_4 (IsRunOfInput _ c.args.options.now (g.R.Read.remaining c.args.input)) c.in-Ok.status _ _ c.in-Ok.ensures.whole (sym c.ended_with.ensures.status ∙ four)

pub run_input-requires-clause-crashes : goal.run_input-requires-clause-crashes
run_input-requires-clause-crashes g c =
    crashes_of_new c.new-memory.result _ c.new-memory.ensures.state (ap disk_calls c.new-memory.ensures.device ∙ c.new.ensures.calls)
    (ap disk_opening c.new-memory.ensures.device ∙ (c.new.ensures.opening ∙ (sym c.new.ensures.bytes ∙ sym (ap disk_bytes c.new-memory.ensures.device))))
