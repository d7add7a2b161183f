-- The rule of crashes: each byte that was written and isn't synced is torn, and each other one is what was written last. It is said of the calls that were made, and
-- cites no table of the device but where a write's range is.
use Rattle.std.specs.Prelude.{◌≡◌, ℕ, ◌-◌, max, List, [], ◌∷◌, length, Bool, true, false, ◌||◌, if◌then◌else◌}
use Rattle.fkv_crashes.specs.declared.crashing.MadeCall.{MadeCall}
use Rattle.fkv_crashes.specs.declared.crashing.MadeCall.TheVariants.{Write, Sync}
use Rattle.fkv_disk.specs.Bytes.{byte_at, covers, range_end}

-- ---- of calls, the oldest first
-- this offset was written last by one of these calls, or before them, and no sync has followed
abbrev pub is_unsynced : List MadeCall → Bool → ℕ → Bool
is_unsynced [] before i = before
is_unsynced (Write at bytes ∷ later) before i = is_unsynced later (covers at (length bytes.items) i || before) i
is_unsynced (Sync ∷ later) before i = is_unsynced later false i

-- what was written last at this offset, by one of these calls or before them
abbrev pub last_byte : List MadeCall → ℕ → ℕ → ℕ
last_byte [] before i = before
last_byte (Write at bytes ∷ later) before i = last_byte later (if covers at (length bytes.items) i then byte_at bytes.items (i - at) else before) i
last_byte (Sync ∷ later) before i = last_byte later before i

-- how far these writes reach, or those before them
abbrev pub last_end : List MadeCall → ℕ → ℕ
last_end [] before = before
last_end (Write at bytes ∷ later) before = last_end later (max before (range_end at (length bytes.items)))
last_end (Sync ∷ later) before = last_end later before

-- the image of a crash behind these calls of a new device
pub record IsTornBehind (calls : List MadeCall) (torn : ℕ) (image : List ℕ) : Type 0 where
  pub ends : length image ≡ last_end calls 0
  pub tears : (i : ℕ) → is_unsynced calls false i ≡ true → byte_at image i ≡ torn
  pub keeps : (i : ℕ) → is_unsynced calls false i ≡ false → byte_at image i ≡ last_byte calls 0 i

-- The image of a crash behind these calls of a new device and within one write more. Its whole range is torn, as far as that reaches.
pub record IsTornWithin (calls : List MadeCall) (at n torn : ℕ) (image : List ℕ) : Type 0 where
  pub ends : length image ≡ max (last_end calls 0) (range_end at n)
  pub cuts : (i : ℕ) → covers at n i ≡ true → byte_at image i ≡ torn
  pub tears : (i : ℕ) → is_unsynced calls false i ≡ true → byte_at image i ≡ torn
  pub keeps : (i : ℕ) → covers at n i ≡ false → is_unsynced calls false i ≡ false → byte_at image i ≡ last_byte calls 0 i
