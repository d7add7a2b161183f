-- The faults of an image, by six stages: the first that finds one names it.
use Rattle.std.specs.Prelude.{ℕ, List}
use Rattle.fkv_base.specs.declared.faults.Fault.{Fault}
use Rattle.fkv_base.specs.declared.faults.Fault.TheVariants.{NotAStore, Damaged, Device, Memory}
use Rattle.fkv_base.specs.declared.faults.Damage.TheVariants as damage
use Rattle.fkv_disk.specs.Device.{Rose}
use Rattle.fkv_record.specs.declared.triples.Triple.{Triple}
use Rattle.fkv_scan.specs.Checkpoint.{Checkpoint, checkpoint_in, AreTriples, IsTripleFault}
use Rattle.fkv_scan.specs.Log.{Log, log_in, AreApart}
use Rattle.fkv_scan.specs.Scan.{HasScan, IsScanFault}
use Rattle.fkv_chains.specs.Chains.{HasChains, IsChainFault}
use Rattle.fkv_room.specs.Room.{HasRoom, IsRoomFault}
use Rattle.fkv_newest.specs.Newest.{IsNewestOf, IsNewestFault}
use Rattle.fkv_newest.specs.declared.newest_slots.Newest.{Newest}

-- what a scan goes by in an image with this newest slot, behind these triples
abbrev pub log_of : List ℕ → Newest → List Triple → Log
log_of image n triples = log_in image n.shape n.slot triples

-- The first three stages find no fault: the image tells this newest slot, and these are the triples of its checkpoint, no two of one home.
pub record HasCheckpoint (image : List ℕ) (n : Newest) (triples : List Triple) : Type 0 where
  pub newest : IsNewestOf image n
  pub stored : AreTriples (checkpoint_in image n.shape n.slot) triples
  pub apart : AreApart triples

-- the last three stages find no fault: in the scan, in the chains, in the room
pub record IsSound (log : Log) : Type 0 where
  pub scan : HasScan log
  pub chains : HasChains log
  pub room : HasRoom log

-- a fault of the third stage
abbrev pub IsTriplesFault : Checkpoint → Fault → Type 0
IsTriplesFault at (Damaged damage.Triple i) = IsTripleFault at i
IsTriplesFault at other = ⊥

-- a fault of the last three stages: the scan finds it; or no fault is in the scan, and the chains have it; or none is in these two, and it is of the room
pub data IsLogFault (log : Log) (fault : Fault) : Type 0 where
  of_scan : IsScanFault log fault → IsLogFault log fault
  of_chains : HasScan log → IsChainFault log fault → IsLogFault log fault
  of_room : HasScan log → HasChains log → IsRoomFault log fault → IsLogFault log fault

-- The fault of an image: of the first two stages, which find whether it is a store's and what its newest slot says; of the triples behind a newest slot; or of
-- the log behind these.
pub data IsFaultOf (image : List ℕ) (fault : Fault) : Type 0 where
  of_newest : IsNewestFault image fault → IsFaultOf image fault
  of_triples : (n : Newest) → IsNewestOf image n → IsTriplesFault (checkpoint_in image n.shape n.slot) fault → IsFaultOf image fault
  of_log : (n : Newest) (triples : List Triple) → HasCheckpoint image n triples → IsLogFault (log_of image n triples) fault → IsFaultOf image fault

-- Why recovery is refused: a fault that stands, under a premise, a failure of the device in this call, or want of memory.
abbrev pub IsRefused : ℕ → ℕ → Type 0 → (Fault → Type 0) → Fault → Type 0
IsRefused before now premise Stands NotAStore = premise → Stands NotAStore
IsRefused before now premise Stands (Damaged part place) = premise → Stands (Damaged part place)
IsRefused before now premise Stands Device = Rose before now
IsRefused before now premise Stands Memory = Unit {0}
IsRefused before now premise Stands other = ⊥
