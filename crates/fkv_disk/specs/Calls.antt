-- What a device reads as, and what a crash may leave of it, from the bytes that it was opened with, all of them synced, and the writes and syncs since.
use Rattle.std.specs.Prelude.{◌≡◌, ℕ, ◌<◌, ◌≤◌, max, List, [], ◌∷◌, length, Bool, true, false, not, ◌&&◌, if◌then◌else◌}
use Rattle.fkv_disk.specs.Bytes.{byte_at, listed, covers, range_end, written}

-- One call: a write of these bytes at this offset, or a sync, and whether it succeeded. A list of calls has the newest first.
pub data Call : Type 0 where
  Write : (at : ℕ) → (bytes : List ℕ) → (done : Bool) → Call
  Sync : (done : Bool) → Call

-- The bytes that the writes which succeeded make. Of the range of a failed write nothing is known: `is_sure` leaves it out.
abbrev pub reads_as : List ℕ → List Call → List ℕ
reads_as opening [] = opening
reads_as opening (Write at bytes true ∷ before) = written (reads_as opening before) at bytes
reads_as opening (Write at bytes false ∷ before) = reads_as opening before
reads_as opening (Sync done ∷ before) = reads_as opening before

-- the newest write over this offset succeeded, or there was none
abbrev pub is_sure : List Call → ℕ → Bool
is_sure [] i = true
is_sure (Write at bytes done ∷ before) i = if covers at (length bytes) i then done else is_sure before i
is_sure (Sync done ∷ before) i = is_sure before i

-- no write, succeeded or failed, was over this offset since the last sync that succeeded
abbrev pub is_untouched : List Call → ℕ → Bool
is_untouched [] i = true
is_untouched (Write at bytes done ∷ before) i = not (covers at (length bytes) i) && is_untouched before i
is_untouched (Sync true ∷ before) i = true
is_untouched (Sync false ∷ before) i = is_untouched before i

-- the end at the last sync that succeeded
abbrev pub synced_end : List ℕ → List Call → ℕ
synced_end opening [] = length opening
synced_end opening (Write at bytes done ∷ before) = synced_end opening before
synced_end opening (Sync true ∷ before) = length (reads_as opening before)
synced_end opening (Sync false ∷ before) = synced_end opening before

-- the end if each failed write has reached its own
abbrev pub far_end : List ℕ → List Call → ℕ
far_end opening [] = length opening
far_end opening (Write at bytes done ∷ before) = max (far_end opening before) (range_end at (length bytes))
far_end opening (Sync done ∷ before) = far_end opening before

-- A device that answered these calls may read as these bytes: at each offset what was last written there, and anything where that write failed.
pub record ReadsAs (opening : List ℕ) (calls : List Call) (seen : List ℕ) : Type 0 where
  pub no_shorter : length (reads_as opening calls) ≤ length seen
  pub no_longer : length seen ≤ far_end opening calls
  pub last_written : (i : ℕ) → is_sure calls i ≡ true → byte_at seen i ≡ byte_at (reads_as opening calls) i

-- A crash after these calls may leave this image: below the end of the last sync and outside each range written since, what was last written there.
-- Each other byte is any byte, and the end is anywhere from the synced one to the new one.
pub record MayLeave (opening : List ℕ) (calls : List Call) (image : List ℕ) : Type 0 where
  pub no_shorter : synced_end opening calls ≤ length image
  pub no_longer : length image ≤ far_end opening calls
  pub kept : (i : ℕ) → i < synced_end opening calls → is_untouched calls i ≡ true → is_sure calls i ≡ true → byte_at image i ≡ byte_at (reads_as opening calls) i

-- each of these calls succeeded
abbrev pub AllDone : List Call → Type 0
AllDone [] = Unit {0}
AllDone (Write at bytes true ∷ before) = AllDone before
AllDone (Write at bytes false ∷ before) = ⊥
AllDone (Sync true ∷ before) = AllDone before
AllDone (Sync false ∷ before) = ⊥

-- The image that tears the most: each byte written since the last sync has this value, also in the range of a failed write.
abbrev pub torn_image : List ℕ → List Call → ℕ → List ℕ
torn_image opening calls torn = listed (far_end opening calls) (λ i. if is_untouched calls i then byte_at (reads_as opening calls) i else torn)
