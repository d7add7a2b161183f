use Rattle.std.proofs.Common.{◌∙◌, ap}
use Rattle.fkv_disk.specs.Memory.{disk_calls, disk_opening}
use Rattle.fkv_runs.proofs.Foretelling.{crashes_of_new}
use Rattle.fkv_runs.proofs.crashing.FuseMemDiskCrashes.crash.Goals as goal

pub returns-clause-crashes : goal.returns-clause-crashes
returns-clause-crashes c =
    crashes_of_new c.new.result _ c.new.ensures.state (ap disk_calls c.new.ensures.device ∙ c.in_ok-crash.ensures.calls)
    (ap disk_opening c.new.ensures.device ∙ (c.in_ok-crash.ensures.synced ∙ c.in_ok-crash.ensures.image))
