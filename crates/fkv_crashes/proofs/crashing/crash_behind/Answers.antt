-- The image is the one that tears the most, behind just these calls.
use Rattle.std.proofs.Common.{◌∙◌, refl, ap}
use Rattle.fkv_disk.specs.Memory.{disk_bytes, disk_calls, disk_opening}
use Rattle.fkv_disk.specs.declared.fuses.FuseState.TheVariants.{Sound}
use Rattle.fkv_crashes.proofs.Behind.{crashed}
use Rattle.fkv_crashes.proofs.crashing.crash_behind.Goals as goal

pub returns-clause-image : goal.returns-clause-image
returns-clause-image c =
    let made = c.in_ok-make_all.ensures in
    crashed disk_bytes c.args.calls.now c.args.torn Sound _ _ _ c.crash.result (λ calls. refl)
    (ap disk_opening c.new.ensures.device ∙ made.opening ∙ c.new-disk.ensures.opening) c.new.ensures.state (ap disk_calls c.new.ensures.device ∙ made.calls) c.crash.ensures.image
