use Rattle.std.proofs.Common.{◌≡◌, ◌<◌, length, sym, subst, ap, ◌∙◌, rules}
use Rattle.std.specs.Prelude.{is_ok}
use Rattle.fkv_disk.specs.Pages.{ArePagesOf}
use Rattle.fkv_disk.proofs.Paged.{alike_written}
use Rattle.fkv_disk.proofs.Spliced.{put_back}
use Rattle.fkv_disk.proofs.ahead.ReadAheadDevice.write.Goals as goal

pub invariant_of-self-clause-are_kept : goal.invariant_of-self-clause-are_kept
invariant_of-self-clause-are_kept g c = λ claim.
    let was = c.args.self.now in
    let seen = g.D.Device.seen was.device in
    let written = g.D.Device.seen c.write.new.self in
    let first = c.write.ensures.honest.1 claim in
    let whole : length was.pages.items ≡ was.pages.len = search rules in
    let back = put_back c.forget_range.new.pages was.pages.items was.pages.len (c.forget_range.ensures.len ∙ ap length c.deref_mut.ensures.value) whole in
    let alike = alike_written c.args.at c.args.bytes.now (is_ok c.write.result) seen written (c.write.ensures.seen first) in
    subst (ArePagesOf written) (sym back) (c.forget_range.ensures.apart seen written alike (subst (ArePagesOf seen) (sym c.deref_mut.ensures.value) (was.are_kept first)))

pub invariant_of-self-clause-some : goal.invariant_of-self-clause-some
invariant_of-self-clause-some g c =
    let was = c.args.self.now in
    let whole : length was.pages.items ≡ was.pages.len = search rules in
    let size = c.forget_range.ensures.len ∙ ap length c.deref_mut.ensures.value in
    let back = put_back c.forget_range.new.pages was.pages.items was.pages.len size whole in
    (was.some.0, subst (λ n. 0 < n) (sym (ap length back ∙ size)) was.some.1)
