-- The numbers and names of the faults, as the program prints them.
use Rattle.std.specs.Prelude.{ℕ, List, codes}
use Rattle.fkv_base.specs.declared.faults.Fault.{Fault}
use Rattle.fkv_base.specs.declared.faults.Fault.TheVariants.{BadShape, ValueReserved, PendingFull, IndexFull, LogFull, VersionsSpent, SerialsSpent, EpochsSpent, DrainFull, CommitRunning, PendingLeft, Asleep, Broken, Device, NotAStore, Damaged, Script, Memory, NoSession, Awake, LostFull}
use Rattle.fkv_base.specs.declared.faults.Damage.{Damage}
use Rattle.fkv_base.specs.declared.faults.Damage.TheVariants.{Manifest, Triple, Record, Link, Full}
use Rattle.fkv_base.specs.declared.faults.ScriptFault.{ScriptFault}
use Rattle.fkv_base.specs.declared.faults.ScriptFault.TheVariants.{Size, Order, Word, Count, Number, Mode}

abbrev pub number_of : Fault → ℕ
number_of BadShape = 1
number_of ValueReserved = 2
number_of PendingFull = 3
number_of IndexFull = 4
number_of LogFull = 5
number_of VersionsSpent = 6
number_of SerialsSpent = 7
number_of EpochsSpent = 8
number_of DrainFull = 9
number_of CommitRunning = 10
number_of PendingLeft = 11
number_of Asleep = 12
number_of Broken = 13
number_of Device = 14
number_of NotAStore = 15
number_of (Damaged damage place) = 16
number_of (Script line kind) = 17
number_of Memory = 18
number_of NoSession = 19
number_of Awake = 20
number_of LostFull = 21

abbrev pub name_of : Fault → List ℕ
name_of BadShape = codes "BadShape"
name_of ValueReserved = codes "ValueReserved"
name_of PendingFull = codes "PendingFull"
name_of IndexFull = codes "IndexFull"
name_of LogFull = codes "LogFull"
name_of VersionsSpent = codes "VersionsSpent"
name_of SerialsSpent = codes "SerialsSpent"
name_of EpochsSpent = codes "EpochsSpent"
name_of DrainFull = codes "DrainFull"
name_of CommitRunning = codes "CommitRunning"
name_of PendingLeft = codes "PendingLeft"
name_of Asleep = codes "Asleep"
name_of Broken = codes "Broken"
name_of Device = codes "Device"
name_of NotAStore = codes "NotAStore"
name_of (Damaged damage place) = codes "Damaged"
name_of (Script line kind) = codes "Script"
name_of Memory = codes "Memory"
name_of NoSession = codes "NoSession"
name_of Awake = codes "Awake"
name_of LostFull = codes "LostFull"

abbrev pub damage_name : Damage → List ℕ
damage_name Manifest = codes "Manifest"
damage_name Triple = codes "Triple"
damage_name Record = codes "Record"
damage_name Link = codes "Link"
damage_name Full = codes "Full"

abbrev pub script_fault_name : ScriptFault → List ℕ
script_fault_name Size = codes "Size"
script_fault_name Order = codes "Order"
script_fault_name Word = codes "Word"
script_fault_name Count = codes "Count"
script_fault_name Number = codes "Number"
script_fault_name Mode = codes "Mode"
