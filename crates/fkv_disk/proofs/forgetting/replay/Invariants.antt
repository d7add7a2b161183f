use Rattle.std.proofs.Common.{◌≡◌, take}
use Rattle.fkv_disk.specs.Calls.{reads_as}
use Rattle.fkv_disk.specs.Done.{calls_of}
use Rattle.fkv_disk.proofs.forgetting.replay.Given as goal

abbrev pub invariant-loop-call : goal.invariant-loop-call
invariant-loop-call l = l.bytes.items ≡ reads_as l.opening (calls_of (take l.call-index l.done))
