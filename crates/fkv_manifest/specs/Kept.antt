-- What is kept of the last commit while the next one is written, and when the next one stands.
use Rattle.std.specs.Prelude.{◌≡◌, ◌⊎◌, ℕ, ◌+◌, ◌*◌, ◌<◌, ◌≤◌, ◌==◌, List, [], length, Some}
use Rattle.fkv_base.specs.declared.shapes.Shape.{Shape}
use Rattle.fkv_record.specs.Places.{number_at, most_triples, area_place, record_place}
use Rattle.fkv_disk.specs.Bytes.{byte_at, bytes_at}
use Rattle.fkv_disk.specs.Calls.{Call, AllDone, reads_as}
use Rattle.fkv_disk.specs.Forgotten.{since_sync}
use Rattle.fkv_manifest.specs.Gating.{gate_start, open_gate}
use Rattle.fkv_manifest.specs.Committing.{CommitWriter, commit_start}
use Rattle.fkv_manifest.specs.Newest.{slot_in, newest}

-- these are the places of the two slots
abbrev pub AreTheSlots : ℕ → ℕ → Type 0
AreTheSlots place other = ((place ≡ 512) × (other ≡ 1024)) ⊎ ((place ≡ 1024) × (other ≡ 512))

-- the bytes of an open slot that names this commit
pub record IsSlotOf (number : ℕ) (bytes : List ℕ) : Type 0 where
  pub whole : length bytes ≡ 512
  pub is_open : byte_at bytes 0 ≡ open_gate
  pub names : number_at bytes 8 ≡ number

-- The machine stands before its first call, and is told the truth of its gate, over bytes whose newest slot is the other one.
-- Its slot's bytes have an open gate and a greater number, its triples lie behind the slots, and the bytes reach as far as
-- both slots do.
pub record IsReady (w : CommitWriter) (bytes : List ℕ) (other : ℕ) : Type 0 where
  pub begins : w.step ≡ commit_start w.triples
  pub gate_begins : w.gate.step ≡ gate_start (byte_at bytes w.gate.place == open_gate)
  pub slots : AreTheSlots w.gate.place other
  pub body : w.gate.start ≡ 1
  pub whole : length w.gate.slot ≡ 512
  pub is_open : byte_at w.gate.slot 0 ≡ open_gate
  pub greater : number_at (slot_in bytes other) 8 < number_at w.gate.slot 8
  pub behind : 1536 ≤ w.area
  pub long : 1536 ≤ length bytes
  pub in_force : newest bytes ≡ Some other

-- The writes begin where each call of the device so far has succeeded and the newest was a sync, over what the device reads as.
pub record Begins (w : CommitWriter) (opened : List ℕ) (before : List Call) (other : ℕ) : Type 0 where
  pub all_done : AllDone before
  pub synced : since_sync before ≡ []
  pub ready : IsReady w (reads_as opened before) other

-- neither in the slot nor among the triples
abbrev pub IsElsewhere : CommitWriter → ℕ → Type 0
IsElsewhere w i = ((i < w.gate.place) ⊎ (w.gate.place + 512 ≤ i)) × ((i < w.area) ⊎ (w.area + length w.triples ≤ i))

-- no byte of before changes but those of the slot and of the triples
pub record SparesRest (w : CommitWriter) (bytes image : List ℕ) : Type 0 where
  pub no_shorter : length bytes ≤ length image
  pub same : (i : ℕ) → i < length bytes → IsElsewhere w i → byte_at image i ≡ byte_at bytes i

-- the last commit is in force, and its slot is as it was
pub record LastStands (bytes : List ℕ) (other : ℕ) (image : List ℕ) : Type 0 where
  pub in_force : newest image ≡ Some other
  pub slot : slot_in image other ≡ slot_in bytes other

-- the new commit is in force, its slot is whole, and so are its triples, up to which the image reaches
pub record NewStands (w : CommitWriter) (image : List ℕ) : Type 0 where
  pub in_force : newest image ≡ Some w.gate.place
  pub slot : slot_in image w.gate.place ≡ w.gate.slot
  pub reaches : (k : ℕ) → k < length w.triples → w.area + k < length image
  pub triples : bytes_at image w.area (length w.triples) ≡ w.triples

-- Each call of the device has succeeded and the newest was a sync, as where it began, and it reads with the new commit in force: the next one may begin.
pub record IsFinished (w : CommitWriter) (opened : List ℕ) (calls : List Call) : Type 0 where
  pub all_done : AllDone calls
  pub synced : since_sync calls ≡ []
  pub stands : NewStands w (reads_as opened calls)
  pub long : 1536 ≤ length (reads_as opened calls)

-- these are the two areas of triples
abbrev pub AreTheAreas : ℕ → ℕ → Type 0
AreTheAreas area other = ((area ≡ 0) × (other ≡ 1)) ⊎ ((area ≡ 1) × (other ≡ 0))

-- The machine writes one slot and one area of a store of this shape, and has no more triples than there is room for.
pub record LiesIn (shape : Shape) (w : CommitWriter) (other area other_area : ℕ) : Type 0 where
  pub slots : AreTheSlots w.gate.place other
  pub areas : AreTheAreas area other_area
  pub triples_at : w.area ≡ area_place shape area
  pub room : length w.triples ≤ 16 * most_triples shape

-- the shape block, the triples of the other area and the log read as before, as far as the bytes reached
pub record SparesStore (shape : Shape) (other_area : ℕ) (bytes image : List ℕ) : Type 0 where
  pub block : (n : ℕ) → n ≤ 512 → n ≤ length bytes → bytes_at image 0 n ≡ bytes_at bytes 0 n
  pub triples : (n : ℕ) → n ≤ 16 * most_triples shape → area_place shape other_area + n ≤ length bytes → bytes_at image (area_place shape other_area) n ≡ bytes_at bytes (area_place shape other_area) n
  pub records : (addr : ℕ) → record_place shape addr + 24 ≤ length bytes → bytes_at image (record_place shape addr) 24 ≡ bytes_at bytes (record_place shape addr) 24
