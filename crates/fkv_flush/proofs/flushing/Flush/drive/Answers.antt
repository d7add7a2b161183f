use Rattle.std.proofs.Common.{◌≤◌, arith}
use Rattle.fkv_base.specs.Limits.{min_page, max_page}
use Rattle.fkv_base.proofs.Shown.{ring_between}
use Rattle.fkv_flush.proofs.AsksLeft.{flush_asked, flush_fewer, flush_ends}
use Rattle.fkv_flush.proofs.flushing.Flush.drive.Goals as goal

pub returns-clause-left : goal.returns-clause-left
returns-clause-left c = flush_asked c.keep.new.self.places c.keep.new.self.step c.ask.result c.ask.ensures

pub returns-clause-fewer : goal.returns-clause-fewer
returns-clause-fewer c =
    let page = c.args.self.now.shape.page in
    let some : min_page ≤ page = (ring_between page min_page max_page c.args.self.now.shape.limits.page_size).0 in
    rw (c.keep.ensures.next) (flush_fewer c.args.self.now.places page c.args.self.now.step c.args.reply (omega (arith, some)))

pub returns-clause-bounded : goal.returns-clause-bounded
returns-clause-bounded c =
    let page = c.args.self.now.shape.page in
    let some : min_page ≤ page = (ring_between page min_page max_page c.args.self.now.shape.limits.page_size).0 in
    rw (c.keep.ensures.next) (flush_ends page c.args.self.now.step c.args.reply (omega (arith, some)))
