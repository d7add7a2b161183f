-- The image is the one that tears the most, behind just these calls: the fuse hasn't blown.
use Rattle.std.proofs.Common.{◌∙◌, refl, ap}
use Rattle.fkv_disk.specs.Fuse.{armed}
use Rattle.fkv_disk.specs.Memory.{disk_bytes, disk_calls, disk_opening}
use Rattle.fkv_disk.specs.declared.fuses.FuseState.TheVariants.{Armed}
use Rattle.fkv_crashes.proofs.Behind.{crashed}
use Rattle.fkv_crashes.proofs.crashing.crash_before.Goals as goal

pub returns-clause-image : goal.returns-clause-image
returns-clause-image c =
    let made = c.in_ok-make_all.ensures in
    let ready = c.arm.ensures.state ∙ ap (armed c.args.left) c.new-fuse.ensures.state in
    let device = c.arm.ensures.device ∙ c.new-fuse.ensures.device in
    crashed disk_bytes c.args.calls.now c.args.torn (Armed c.args.left) _ _ _ c.crash.result (λ calls. refl)
    (ap disk_opening device ∙ made.opening ∙ c.new-disk.ensures.opening) ready (ap disk_calls device ∙ made.calls) c.crash.ensures.image
