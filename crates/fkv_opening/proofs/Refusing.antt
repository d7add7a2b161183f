-- Why a stage is refused is why recovery is.
use Rattle.std.proofs.Common.{◌≡◌, ℕ, ◌<◌, ◌≤◌, ◌*◌, ◌^◌, List, arith}
use Rattle.std.proofs.Math.Nat.{mul-le-mul}
use Rattle.fkv_base.proofs.Shown.{ring_between}
use Rattle.fkv_base.specs.Limits.{min_page, max_page, max_disk_pages}
use Rattle.fkv_base.specs.declared.faults.Fault.{Fault}
use Rattle.fkv_base.specs.declared.faults.Fault.TheVariants as fault
use Rattle.fkv_base.specs.declared.faults.Damage.TheVariants as damage
use Rattle.fkv_base.specs.declared.shapes.Shape.{Shape}
use Rattle.fkv_scan.specs.declared.scans.Scanned.{Scanned}
use Rattle.fkv_scan.specs.Checkpoint.{checkpoint_in, IsUnread}
use Rattle.fkv_scan.specs.Log.{Log}
use Rattle.fkv_scan.proofs.Shown.{rose_before}
use Rattle.fkv_room.specs.Refused.{IsRefused as IsRoomRefused, IsSound as IsRoomSound}
use Rattle.fkv_newest.specs.declared.newest_slots.Newest.{Newest}
use Rattle.fkv_newest.specs.Newest.{IsNewestOf}
use Rattle.fkv_newest.specs.Refused.{IsRefused as IsNewestRefused}
use Rattle.fkv_opening.specs.Faults.{IsLogFault, of_room, IsFaultOf, of_newest, of_triples, IsRefused}

-- a log is shorter than what an address can name
pub log_short : (s : Shape) (end : ℕ) → end ≤ s.disk_pages * s.page → end < 2 ^ 48
log_short s end on_disk =
    let page : s.page ≤ max_page = (ring_between s.page min_page max_page s.limits.page_size).1 in
    let disk : s.disk_pages ≤ max_disk_pages = s.limits.few_disk in
    let most : s.disk_pages * s.page ≤ max_disk_pages * max_page = mul-le-mul disk page in
    omega (arith, on_disk, most)

-- by the room
pub of_the_room : (before now : ℕ) (premise : Type 0) (log : Log) (its_shape : Shape) (told : Scanned) (why : Fault) → (premise → (log.shape ≡ its_shape) × IsRoomSound log told)
    → IsRoomRefused ((log.shape ≡ its_shape) × IsRoomSound log told) log why → IsRefused before now premise (IsLogFault log) why
of_the_room before now premise log its_shape told (fault.Damaged part place) given found = λ p.
    let sound = (given p).1 in
    of_room sound.scanned.sound sound.chained (found (given p))
of_the_room before now premise log its_shape told fault.Memory given found = tt
of_the_room before now premise log its_shape told other given found = absurd (found)

-- by the first two stages
pub of_the_newest : (before now : ℕ) (premise : Type 0) (image : List ℕ) (why : Fault) → IsNewestRefused before now premise image why → IsRefused before now premise (IsFaultOf image) why
of_the_newest before now premise image fault.NotAStore found = λ p. of_newest (found p)
of_the_newest before now premise image (fault.Damaged damage.Manifest place) found = λ p. of_newest (found p)
of_the_newest before now premise image fault.Device found = found
of_the_newest before now premise image other found = absurd (found)

-- by the triples
pub of_the_triples : (before now : ℕ) (honest : Type 0) (image : List ℕ) (n : Newest) (why : Fault) → IsUnread before now honest (checkpoint_in image n.shape n.slot) why
    → IsRefused before now (honest × IsNewestOf image n) (IsFaultOf image) why
of_the_triples before now honest image n (fault.Damaged damage.Triple i) found = λ p. of_triples n p.1 (found p.0)
of_the_triples before now honest image n fault.Device found = found
of_the_triples before now honest image n fault.Memory found = tt
of_the_triples before now honest image n other found = absurd (found)

-- by a later stretch of calls, where what stands there stands here
pub refused_after : (before mid now : ℕ) → before ≤ mid → (premise premise_mid : Type 0) (Stands StandsMid : Fault → Type 0) → (premise → premise_mid × ((why : Fault) → StandsMid why → Stands why))
    → (why : Fault) → IsRefused mid now premise_mid StandsMid why → IsRefused before now premise Stands why
refused_after before mid now le premise premise_mid Stands StandsMid given fault.NotAStore found = λ p. (given p).1 fault.NotAStore (found (given p).0)
refused_after before mid now le premise premise_mid Stands StandsMid given (fault.Damaged part place) found = λ p. (given p).1 (fault.Damaged part place) (found (given p).0)
refused_after before mid now le premise premise_mid Stands StandsMid given fault.Device found = rose_before before mid now le found
refused_after before mid now le premise premise_mid Stands StandsMid given fault.Memory found = tt
refused_after before mid now le premise premise_mid Stands StandsMid given other found = absurd (found)
