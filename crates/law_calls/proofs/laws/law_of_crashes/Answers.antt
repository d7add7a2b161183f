-- The law, by the calls that the device has met.
use Rattle.std.proofs.Common.{refl}
use Rattle.fkv_disk.specs.contracts.fuses.FuseDevice.TheImpl as fuse
use Rattle.fkv_disk.specs.contracts.memory.MemDisk as memory
use Rattle.fkv_disk.specs.contracts.memory.MemDiskDevice.TheImpl as disk
use Rattle.law_calls.proofs.Crashes.{crashes_take, takes_what_is_met}
use Rattle.law_calls.proofs.laws.law_of_crashes.Goals as goal

pub returns-clause-met : goal.returns-clause-met
returns-clause-met c = takes_what_is_met (fuse.ghosts memory.the_row disk.ghosts disk.dict) (λ fuse. refl)

pub returns-clause-steps : goal.returns-clause-steps
returns-clause-steps c = crashes_take (fuse.ghosts memory.the_row disk.ghosts disk.dict) (λ fuse. refl)
