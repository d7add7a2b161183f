-- The operations before this place have run.
use Rattle.std.proofs.Common.{◌≡◌, length, take}
use Rattle.fkv_threads.specs.Calling.{HaveRun}
use Rattle.fkv_threads.specs.Models.{opening}
use Rattle.fkv_threads.proofs.seated.Seated.ops.Given as goal

abbrev pub invariant-loop-at : goal.invariant-loop-at
invariant-loop-at g l = record {
  count : length l.told ≡ length l.ops;
  ran : HaveRun (opening g.D.Device) l.fn.self (take l.at l.ops) (take l.at l.told) l.self;
}
