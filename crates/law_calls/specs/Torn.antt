-- The rule of crashes: each byte that was written and isn't synced is torn, and each other one is what was written last. It is said of the calls that a device has met, and
-- cites no table of the device but where a write's range is.
use Rattle.std.specs.Prelude.{◌≡◌, ℕ, ◌-◌, max, List, [], ◌∷◌, length, take, drop, Bool, true, false, ◌||◌, if◌then◌else◌}
use Rattle.fkv_disk.specs.Bytes.{byte_at, covers, range_end}
use Rattle.fkv_disk.specs.Kinds.{Kind, Reading, Writing, Syncing}
use Rattle.fkv_disk.specs.declared.fuses.FuseState.{FuseState}
use Rattle.fkv_disk.specs.declared.fuses.FuseState.TheVariants.{Sound, Armed, Blown, BlownAt}

-- ---- of calls, the oldest first; one that failed changes nothing
-- this offset was written last by one of these calls, or before them, and no sync has followed
abbrev pub is_unsynced : List Kind → Bool → ℕ → Bool
is_unsynced [] before i = before
is_unsynced (Writing at bytes true ∷ later) before i = is_unsynced later (covers at (length bytes) i || before) i
is_unsynced (Syncing true ∷ later) before i = is_unsynced later false i
is_unsynced (Writing at bytes false ∷ later) before i = is_unsynced later before i
is_unsynced (Syncing false ∷ later) before i = is_unsynced later before i
is_unsynced (Reading ∷ later) before i = is_unsynced later before i

-- what was written last at this offset, by one of these calls or before them
abbrev pub last_byte : List Kind → ℕ → ℕ → ℕ
last_byte [] before i = before
last_byte (Writing at bytes true ∷ later) before i = last_byte later (if covers at (length bytes) i then byte_at bytes (i - at) else before) i
last_byte (Writing at bytes false ∷ later) before i = last_byte later before i
last_byte (Syncing done ∷ later) before i = last_byte later before i
last_byte (Reading ∷ later) before i = last_byte later before i

-- how far these writes reach, or those before them
abbrev pub last_end : List Kind → ℕ → ℕ
last_end [] before = before
last_end (Writing at bytes true ∷ later) before = last_end later (max before (range_end at (length bytes)))
last_end (Writing at bytes false ∷ later) before = last_end later before
last_end (Syncing done ∷ later) before = last_end later before
last_end (Reading ∷ later) before = last_end later before

-- The image of a crash behind these calls of a device that read as these bytes, of which some may not have been synced.
pub record IsTornBehind (bytes : List ℕ) (unsynced : ℕ → Bool) (met : List Kind) (torn : ℕ) (image : List ℕ) : Type 0 where
  pub ends : length image ≡ last_end met (length bytes)
  pub tears : (i : ℕ) → is_unsynced met (unsynced i) i ≡ true → byte_at image i ≡ torn
  pub keeps : (i : ℕ) → is_unsynced met (unsynced i) i ≡ false → byte_at image i ≡ last_byte met (byte_at bytes i) i

-- The image of a crash behind these calls and within one write more. Its whole range is torn, as far as that reaches.
pub record IsTornWithin (bytes : List ℕ) (unsynced : ℕ → Bool) (met : List Kind) (at n torn : ℕ) (image : List ℕ) : Type 0 where
  pub ends : length image ≡ max (last_end met (length bytes)) (range_end at n)
  pub cuts : (i : ℕ) → covers at n i ≡ true → byte_at image i ≡ torn
  pub tears : (i : ℕ) → is_unsynced met (unsynced i) i ≡ true → byte_at image i ≡ torn
  pub keeps : (i : ℕ) → covers at n i ≡ false → is_unsynced met (unsynced i) i ≡ false → byte_at image i ≡ last_byte met (byte_at bytes i) i

-- Behind these calls the first of the rest came to the crash, if there is one. A write is torn, and no other call leaves a mark.
abbrev pub IsTornAt : List ℕ → (ℕ → Bool) → List Kind → List Kind → ℕ → List ℕ → Type 0
IsTornAt bytes unsynced passed (Writing at its done ∷ rest) torn image = IsTornWithin bytes unsynced passed at (length its) torn image
IsTornAt bytes unsynced passed rest torn image = IsTornBehind bytes unsynced passed torn image

-- The image of a crash behind these calls of a fuse around such a device: an armed one lets so many pass, and one that has blown none.
abbrev pub IsTornByFuse : FuseState → List ℕ → (ℕ → Bool) → List Kind → ℕ → List ℕ → Type 0
IsTornByFuse Sound bytes unsynced met torn image = IsTornBehind bytes unsynced met torn image
IsTornByFuse (Armed left) bytes unsynced met torn image = IsTornAt bytes unsynced (take left met) (drop left met) torn image
IsTornByFuse Blown bytes unsynced met torn image = IsTornBehind bytes unsynced [] torn image
IsTornByFuse (BlownAt at n) bytes unsynced met torn image = IsTornWithin bytes unsynced [] at n torn image
