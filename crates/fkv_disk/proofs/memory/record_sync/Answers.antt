use Rattle.std.proofs.Common.{◌∙◌, ap}
use Rattle.fkv_disk.specs.Done.{calls_of}
use Rattle.fkv_disk.specs.declared.memory.DoneCall.TheVariants.{Synced}
use Rattle.fkv_disk.proofs.Recorded.{calls_of-push}
use Rattle.fkv_disk.proofs.memory.record_sync.Goals as goal

pub returns-clause-calls : goal.returns-clause-calls
returns-clause-calls c = ap calls_of c.in_ok-push.ensures.items ∙ calls_of-push c.args.done.now.items Synced
