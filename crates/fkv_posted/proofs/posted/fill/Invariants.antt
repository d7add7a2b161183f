use Rattle.std.proofs.Common.{◌≡◌, ◌+◌, ◌<◌, ℕ, length}
use Rattle.fkv_disk.specs.Bytes.{byte_at}
use Rattle.fkv_posted.proofs.posted.fill.Given as goal

abbrev pub invariant-loop-more : goal.invariant-loop-more
invariant-loop-more l = record {
  size : length l.into ≡ length l.fn.into;
  filled : (i : ℕ) → i < l.more → byte_at l.into i ≡ byte_at l.bytes (l.at + i);
}
