use Rattle.std.proofs.Common.{true, ◌∙◌, sym}
use Rattle.fkv_disk.specs.Calls.{Sync}
use Rattle.fkv_disk.proofs.Recorded.{synced_only, synced_no_more, elapses_push}
use Rattle.fkv_disk.proofs.memory.MemDiskDevice.sync.Goals as goal

pub returns-in-Ok-clause-durable : goal.returns-in-Ok-clause-durable
returns-in-Ok-clause-durable c =
    let disk = c.args.self.now in
    λ claim image left. synced_only disk.opening.items disk.done.items _ image c.in-Ok.ensures.calls left.allowed ∙ sym disk.is_replayed

pub returns-in-Ok-clause-crash : goal.returns-in-Ok-clause-crash
returns-in-Ok-clause-crash c =
    let disk = c.args.self.now in
    λ claim image left. synced_no_more disk.opening.items disk.done.items _ image c.in-Ok.ensures.calls left

pub returns-in-Ok-clause-time : goal.returns-in-Ok-clause-time
returns-in-Ok-clause-time c = λ claim. elapses_push c.args.self.now.forgotten c.args.self.now.opening.items _ _ (Sync true) c.in-Ok.ensures.calls
