use Rattle.std.proofs.Common.{true, subst}
use Rattle.fkv_disk.specs.Bytes.{AreBytes}
use Rattle.fkv_disk.specs.Calls.{Write}
use Rattle.fkv_disk.proofs.Recorded.{write_torn, elapses_push}
use Rattle.fkv_disk.proofs.memory.MemDiskDevice.write.Goals as goal

pub returns-in-Ok-clause-crash : goal.returns-in-Ok-clause-crash
returns-in-Ok-clause-crash c =
    let disk = c.args.self.now in
    λ claim image left. write_torn disk.opening.items _ _ c.args.at c.args.bytes.now image c.in-Ok.ensures.calls (subst AreBytes disk.is_replayed c.in-Ok.ensures.were_bytes) left

pub returns-in-Ok-clause-time : goal.returns-in-Ok-clause-time
returns-in-Ok-clause-time c = λ claim. elapses_push c.args.self.now.forgotten c.args.self.now.opening.items _ _ (Write c.args.at c.args.bytes.now true) c.in-Ok.ensures.calls
