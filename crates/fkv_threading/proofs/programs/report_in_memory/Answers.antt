-- The device is given empty. The image is one that a crash may leave of it, behind the keeper's calls.
use Rattle.std.proofs.Common.{◌≡◌, ◌∙◌, [], ap}
use Rattle.std.proofs.lemmas.Result.{err_from_is_err_and}
use Rattle.fkv_disk.specs.Fuses.{fuse_device}
use Rattle.fkv_disk.specs.Memory.{disk_bytes}
use Rattle.fkv_disk.specs.declared.fuses.Fuse.{Fuse}
use Rattle.fkv_disk.specs.declared.memory.MemDisk.{MemDisk}
use Rattle.fkv_threading.proofs.Refused.{by_memory, by_play, by_report, by_sizes}
use Rattle.fkv_threading.proofs.Written.{report_of_run}
use Rattle.fkv_threading.proofs.programs.report_in_memory.Goals as goal

abbrev is_empty : Fuse MemDisk → Type 0
is_empty fuse = disk_bytes (fuse_device fuse) ≡ []

pub returns-clause-ok : goal.returns-clause-ok
returns-clause-ok g c =
    let empty : is_empty c.new-device.result = ap disk_bytes c.new-device.ensures.device ∙ c.new-memory.ensures.bytes in
    report_of_run _ _ is_empty _ _ c.args.sizes c.report_on.result c.new-device.result c.in_ok-shape.shape c.in_ok-logs.field-0.logs.items c.deref.result.now _ _ c.in_ok-image.image c.deref.ensures.value empty c.in_ok-shape.ensures.ok c.in_ok-logs.ensures.ok c.in_ok-image.ensures.allowed c.report_on.ensures.ok

pub returns-in_err-shape-clause-err : goal.returns-in_err-shape-clause-err
returns-in_err-shape-clause-err g c =
    let p = err_from_is_err_and c.from_residual.result c.from_residual.ensures.1 in
    rw (p.1, p.2) (by_sizes _ _ _ _ c.args.lines.now c.args.sizes c.in_err-shape.field-0.0 c.in_err-shape.ensures.err)

pub returns-in_err-logs-clause-err : goal.returns-in_err-logs-clause-err
returns-in_err-logs-clause-err g c =
    let empty : is_empty c.new-device.result = ap disk_bytes c.new-device.ensures.device ∙ c.new-memory.ensures.bytes in
    let p = err_from_is_err_and c.from_residual-in_err-logs.result c.from_residual-in_err-logs.ensures.1 in
    rw (p.1, p.2) (by_play _ _ is_empty _ c.args.lines.now c.args.sizes c.new-device.result c.in_ok-shape.shape c.in_err-logs.field-0.0 empty c.in_ok-shape.ensures.ok c.in_err-logs.ensures.err)

pub returns-in_err-image-clause-err : goal.returns-in_err-image-clause-err
returns-in_err-image-clause-err g c =
    let p = err_from_is_err_and c.from_residual-in_err-image.result c.from_residual-in_err-image.ensures.1 in
    rw (p.1, p.2) (by_memory _ _ _ _ c.args.lines.now c.args.sizes c.in_err-image.field-0.0 c.in_err-image.ensures.memory)

pub returns-clause-err : goal.returns-clause-err
returns-clause-err g c =
    let empty : is_empty c.new-device.result = ap disk_bytes c.new-device.ensures.device ∙ c.new-memory.ensures.bytes in
    by_report _ _ is_empty _ c.args.lines.now c.args.sizes c.new-device.result c.in_ok-shape.shape c.in_ok-logs.field-0.logs.items c.deref.result.now _ _ c.in_ok-image.image c.report_on.result c.deref.ensures.value empty c.in_ok-shape.ensures.ok c.in_ok-logs.ensures.ok c.in_ok-image.ensures.allowed c.report_on.ensures.err
