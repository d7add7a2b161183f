-- The last stage of recovery: whether each home with an entry finds a slot in the index.
use Rattle.std.specs.Prelude.{◌≢◌, ℕ, zero, suc, ◌+◌, ◌/◌, ◌^◌, ◌<◌, ◌≤◌, ◌↔◌, List, count_by, nat_eq, Contains, AllPairs}
use Rattle.fkv_base.specs.declared.faults.Fault.{Fault}
use Rattle.fkv_base.specs.declared.faults.Fault.TheVariants.{Damaged}
use Rattle.fkv_base.specs.declared.faults.Damage.TheVariants.{Full}
use Rattle.fkv_entries.specs.Room.{needed}
use Rattle.fkv_scan.specs.Log.{Log}
use Rattle.fkv_chains.specs.Entries.{IsEntry}

-- the homes that have an entry, each once
pub record AreHomes (log : Log) (homes : List ℕ) : Type 0 where
  pub once : AllPairs (λ x y. x ≢ y) homes
  pub all : (its_home : ℕ) → Contains homes its_home ↔ ((a : ℕ) × IsEntry log its_home a)

-- how many of them are in a bucket
abbrev pub in_bucket : List ℕ → ℕ → ℕ
in_bucket homes bucket = count_by (λ h. nat_eq (h / 2 ^ 15) bucket) homes

-- how many overflow buckets the buckets below this one take
abbrev pub taken : List ℕ → ℕ → ℕ
taken homes zero = 0
taken homes (suc bucket) = taken homes bucket + needed (in_bucket homes bucket)

-- The least bucket that finds no room, where buckets are filled upwards and each takes the next overflow buckets: those below it leave less than it needs.
pub record IsFull (log : Log) (bucket : ℕ) : Type 0 where
  pub homes : List ℕ
  pub are_homes : AreHomes log homes
  pub in_index : bucket < 2 ^ log.shape.bucket_bits
  pub before : taken homes bucket ≤ log.shape.overflow
  pub here : log.shape.overflow < taken homes (suc bucket)

-- all buckets find room
pub record HasRoom (log : Log) : Type 0 where
  pub homes : List ℕ
  pub are_homes : AreHomes log homes
  pub enough : taken homes (2 ^ log.shape.bucket_bits) ≤ log.shape.overflow

-- a fault of the room
abbrev pub IsRoomFault : Log → Fault → Type 0
IsRoomFault log (Damaged Full bucket) = IsFull log bucket
IsRoomFault log other = ⊥
