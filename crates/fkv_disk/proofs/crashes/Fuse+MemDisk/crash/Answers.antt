use Rattle.std.proofs.Common.{rules, ◌≡◌, ◌<◌, sym, ◌∙◌, subst}
use Rattle.std.proofs.lemmas.Result.{IfOk-weaker}
use Rattle.fkv_disk.specs.Bytes.{AreBytes}
use Rattle.fkv_disk.specs.Calls.{torn_image, reads_as}
use Rattle.fkv_disk.specs.Done.{calls_of, MayLeaveBytes}
use Rattle.fkv_disk.specs.Fuse.{FuseLeaves, with_refused}
use Rattle.fkv_disk.proofs.Tearing.{torn_fuse_leaves}
use Rattle.fkv_disk.proofs.crashes.Fuse+MemDisk.crash.Goals as goal

pub returns-clause-allowed : goal.returns-clause-allowed
returns-clause-allowed c =
    let disk = c.args.self.device in
    let state = c.args.self.state in
    let calls = calls_of disk.done.items in
    let small : c.args.torn < 256 = search rules in
    let made = rw (c.deref.ensures.value, c.deref-2.ensures.value) at c.in_ok-image.ensures in
    let image : c.in_ok-image.image.items ≡ torn_image disk.opening.items (with_refused state calls) c.args.torn = made.image disk.opening.items disk.is_replayed in
    let fits : AreBytes (reads_as disk.opening.items calls) = subst AreBytes disk.is_replayed made.were_bytes in
    IfOk-weaker c.from_bytes.result _ _ (λ new is. subst (FuseLeaves state (MayLeaveBytes disk.opening.items calls)) (sym (is ∙ image)) (torn_fuse_leaves disk.opening.items calls c.args.torn state small fits)) c.from_bytes.ensures.bytes
