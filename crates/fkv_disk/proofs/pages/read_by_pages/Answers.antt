use Rattle.std.proofs.Common.{◌≡◌, ◌+◌, ◌-◌, ◌%◌, length, sym, subst, ap, ◌∙◌, rules}
use Rattle.std.proofs.lemmas.Result.{on_ok_weaker}
use Rattle.fkv_disk.specs.Bytes.{bytes_at}
use Rattle.fkv_disk.specs.Pages.{ArePagesOf}
use Rattle.fkv_disk.proofs.Asking.{more_reads}
use Rattle.fkv_disk.proofs.Paged.{two_parts}
use Rattle.fkv_disk.proofs.pages.read_by_pages.Goals as goal

pub returns-clause-reads : goal.returns-clause-reads
returns-clause-reads g c = more_reads g.D.Device.refuses g.D.Device.expects c.args.device.now c.read_piece-2.new.device c.read_piece-3.new.device c.in_ok-read_piece.ensures.reads c.read_piece-3.ensures.reads

pub returns-clause-bytes : goal.returns-clause-bytes
returns-clause-bytes g c = λ claim pages.
    let first = c.in_ok-read_piece.ensures in
    let seen = g.D.Device.seen c.args.device.now in
    let same = first.quiet.same_bytes claim in
    let n = length c.split_at_mut-head.result.0.now in
    let m = length c.split_at_mut-head.result.1.now in
    let from = c.args.at + (c.args.size - c.args.at % c.args.size) in
    let behind : from ≡ c.args.at + n = search rules in
    let all : n + m ≡ length c.args.into.now = search rules in
    let rest = c.read_piece-3.ensures.bytes (first.quiet.premise.0 claim) (subst (λ it. ArePagesOf it c.read_piece-2.new.pages) (sym same) (first.kept claim pages)) in
    on_ok_weaker c.read_piece-3.result (λ there. two_parts seen c.read_piece-2.new.into c.read_piece-3.new.into c.args.at n from m (length c.args.into.now) behind all (first.bytes claim pages) (there ∙ ap (λ it. bytes_at it from m) same)) rest

pub returns-clause-kept : goal.returns-clause-kept
returns-clause-kept g c = λ claim pages.
    let first = c.in_ok-read_piece.ensures in
    let same = first.quiet.same_bytes claim in
    let mid = subst (λ it. ArePagesOf it c.read_piece-2.new.pages) (sym same) (first.kept claim pages) in
    subst (λ it. ArePagesOf it c.read_piece-3.new.pages) same (c.read_piece-3.ensures.kept (first.quiet.premise.0 claim) mid)
