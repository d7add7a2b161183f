-- Why the index isn't told to have room.
use Rattle.fkv_base.specs.declared.faults.Fault.{Fault}
use Rattle.fkv_base.specs.declared.faults.Fault.TheVariants.{Damaged, Memory}
use Rattle.fkv_scan.specs.declared.scans.Scanned.{Scanned}
use Rattle.fkv_scan.specs.Log.{Log, AreBelow}
use Rattle.fkv_scan.specs.Scanned.{AreScanned}
use Rattle.fkv_chains.specs.Chains.{HasChains}
use Rattle.fkv_room.specs.Room.{IsRoomFault}

-- no earlier stage finds a fault, and the scan told this
pub record IsSound (log : Log) (told : Scanned) : Type 0 where
  pub below : AreBelow log.tail log.triples
  pub scanned : AreScanned log told
  pub chained : HasChains log

-- a fault of the room, under a premise, or want of memory
abbrev pub IsRefused : Type 0 → Log → Fault → Type 0
IsRefused premise log (Damaged part place) = premise → IsRoomFault log (Damaged part place)
IsRefused premise log Memory = Unit {0}
IsRefused premise log other = ⊥
