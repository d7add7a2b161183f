use Rattle.std.proofs.Common.{◌+◌, ℕ, length, arith}
use Rattle.fkv_disk.specs.Bytes.{byte_at}
use Rattle.fkv_disk.proofs.Shown.{is_listed}
use Rattle.fkv_posted.proofs.posted.fill.Goals as goal

pub returns : goal.returns
returns c =
    is_listed c.loop-more.into (length c.args.into.now) (λ (k : ℕ). byte_at c.args.bytes.now (c.args.at + k)) c.loop-more.invariant.size
    (λ i below. c.loop-more.invariant.filled i (omega (arith, below, c.loop-more-test.false)))
