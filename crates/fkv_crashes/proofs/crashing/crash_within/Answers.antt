-- The image is the one that tears the most, behind just these calls and a write that failed.
use Rattle.std.proofs.Common.{◌≡◌, ◌∙◌, ap, length}
use Rattle.fkv_disk.specs.Fuse.{armed, burned_at, passes}
use Rattle.fkv_disk.specs.Memory.{disk_bytes, disk_calls, disk_opening}
use Rattle.fkv_crashes.proofs.Within.{crashed_within}
use Rattle.fkv_crashes.proofs.crashing.crash_within.Goals as goal

pub returns-clause-image : goal.returns-clause-image
returns-clause-image c =
    let made = c.in_ok-make_all.ensures in
    let ready = c.arm.ensures.state ∙ ap (armed 0) c.new-fuse.ensures.state in
    let device = c.write.ensures.untouched (ap passes ready) ∙ c.arm.ensures.device ∙ c.new-fuse.ensures.device in
    crashed_within disk_bytes c.args.calls.now c.args.at (length c.args.bytes.now) c.args.torn _ _ _ c.crash.result
    (ap disk_opening device ∙ made.opening ∙ c.new-disk.ensures.opening) (c.write.ensures.state ∙ ap (burned_at c.args.at (length c.args.bytes.now)) ready) (ap disk_calls device ∙ made.calls) c.crash.ensures.image
