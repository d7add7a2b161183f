-- The image is the one that tears the most, behind just these calls: the sync hasn't come through.
use Rattle.std.proofs.Common.{◌∙◌, refl, ap}
use Rattle.fkv_disk.specs.Fuse.{armed, burned, passes}
use Rattle.fkv_disk.specs.Memory.{disk_bytes, disk_calls, disk_opening}
use Rattle.fkv_disk.specs.declared.fuses.FuseState.TheVariants.{Blown}
use Rattle.fkv_crashes.proofs.Behind.{crashed}
use Rattle.fkv_crashes.proofs.crashing.crash_at_sync.Goals as goal

pub returns-clause-image : goal.returns-clause-image
returns-clause-image c =
    let made = c.in_ok-make_all.ensures in
    let ready = c.arm.ensures.state ∙ ap (armed 0) c.new-fuse.ensures.state in
    let device = c.sync.ensures.untouched (ap passes ready) ∙ c.arm.ensures.device ∙ c.new-fuse.ensures.device in
    crashed disk_bytes c.args.calls.now c.args.torn Blown _ _ _ c.crash.result (λ calls. refl)
    (ap disk_opening device ∙ made.opening ∙ c.new-disk.ensures.opening) (c.sync.ensures.state ∙ ap burned ready) (ap disk_calls device ∙ made.calls) c.crash.ensures.image
