use Rattle.std.proofs.Common.{◌≤◌, arith}
use Rattle.std.specs.Prelude.{vec_len}
use Rattle.fkv_base.specs.Limits.{min_page, max_page}
use Rattle.fkv_base.proofs.Shown.{ring_between}
use Rattle.fkv_flush.proofs.Parts.{after_reply}
use Rattle.fkv_flush.proofs.flushing.Flush.keep.Goals as goal

pub invariant_of-self : goal.invariant_of-self
invariant_of-self c =
    let page = c.self.inside.shape.page in
    let some : min_page ≤ page = (ring_between page min_page max_page c.self.inside.shape.limits.page_size).0 in (
      omega (arith, c.keep_word.ensures.capacity, c.self.invariant.0),
      rw (c.step_after-self-inside.ensures, c.keep_word.ensures.len) (after_reply page c.self.inside.step (vec_len c.self.inside.bytes) c.args.reply (omega (arith, some)) c.self.invariant.1),
    )
