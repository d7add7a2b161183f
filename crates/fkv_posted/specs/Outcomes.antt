-- What came of the calls that a caller makes of a medium himself, and what they make of it.
use Rattle.std.specs.Prelude.{◌≡◌, ⊤, ℕ, ◌+◌, ◌≤◌, List, [], ◌∷◌, length, drop, true, false}
use Rattle.fkv_disk.specs.Bytes.{AreBytes, bytes_at}
use Rattle.fkv_disk.specs.Calls.{Call, Write, Sync, reads_as}
use Rattle.fkv_disk.specs.Device.{Torn}

-- a read that gave these bytes; or a write or a sync, and whether it succeeded
pub data Outcome : Type 0 where
  Gave : (at : ℕ) → (bytes : List ℕ) → Outcome
  Made : Call → Outcome

-- the writes and syncs among them; lists have the newest first
abbrev pub calls_in : List Outcome → List Call
calls_in [] = []
calls_in (Gave at bytes ∷ before) = calls_in before
calls_in (Made call ∷ before) = call ∷ calls_in before

-- Each read gave what was last written before it, or what the medium was opened with.
abbrev pub AreOutcomes : List ℕ → List Outcome → Type 0
AreOutcomes opened [] = ⊤
AreOutcomes opened (Gave at bytes ∷ before) = (bytes ≡ bytes_at (reads_as opened (calls_in before)) at (length bytes)) × AreOutcomes opened before
AreOutcomes opened (Made call ∷ before) = AreOutcomes opened before

-- What a crash may leave: the bytes that the medium was opened with or that were synced; and each write since, torn over one of these.
abbrev pub MayRemain : List ℕ → List Call → List ℕ → Type 0
MayRemain opened [] image = AreBytes image × (image ≡ opened)
MayRemain opened (Write at bytes done ∷ before) image = AreBytes image × ((old : List ℕ) × MayRemain opened before old × Torn at (length bytes) old image)
MayRemain opened (Sync true ∷ before) image = AreBytes image × (image ≡ reads_as opened before)
MayRemain opened (Sync false ∷ before) image = MayRemain opened before image

-- What a crash may have left when the newest of the calls hadn't come yet, at most those since time t. Time counts calls.
abbrev pub RemainsSince : List ℕ → List Call → ℕ → List ℕ → Type 0
RemainsSince opened calls t image = (newest : ℕ) × (t + newest ≤ length calls) × MayRemain opened (drop newest calls) image

-- behind each of the calls it reads as bytes
abbrev pub AlwaysBytes : List ℕ → List Call → Type 0
AlwaysBytes opened calls = (n : ℕ) → AreBytes (reads_as opened (drop n calls))
