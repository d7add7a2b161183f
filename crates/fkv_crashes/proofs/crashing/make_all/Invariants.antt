-- What is left, noted behind the calls so far, are all calls. The bytes that the device was made with stay.
use Rattle.std.proofs.Common.{◌≡◌, drop}
use Rattle.fkv_crashes.specs.Made.{as_calls, noted}
use Rattle.fkv_disk.specs.Memory.{disk_calls, disk_opening}
use Rattle.fkv_crashes.proofs.crashing.make_all.Given as goal

abbrev pub invariant-loop-call : goal.invariant-loop-call
invariant-loop-call l = (disk_opening l.disk ≡ disk_opening l.initial.disk) × (noted (drop l.call-index l.calls) (disk_calls l.disk) ≡ as_calls l.calls)
