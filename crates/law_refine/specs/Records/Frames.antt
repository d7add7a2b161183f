-- Where records show: in their frames, and on the device.
use Rattle.std.specs.Prelude.{◌≡◌, ⊤, ℕ, ◌+◌, ◌<◌, ◌≤◌, List, [], ◌∷◌}
use Rattle.fkv_base.specs.declared.shapes.Shape.{Shape}
use Rattle.fkv_disk.specs.Bytes.{bytes_at}
use Rattle.fkv_disk.specs.Calls.{Call}
use Rattle.law_world.specs.Below.fkv_flush.GuardFlushed.{MayShow}
use Rattle.law_world.specs.Below.fkv_flush.GuardLevels.{levels_of}
use Rattle.law_log.specs.Chains.{Cell, Published}
use Rattle.law_log.specs.Ghosts.{Log}
use Rattle.fkv_plane.specs.declared.places.RecordWord.{RecordWord}
use Rattle.fkv_plane.specs.declared.places.RecordWord.TheVariants as rec
use Rattle.fkv_plane.specs.Asked.{word_at}
use Rattle.fkv_plane.specs.Places.{record_place}
use Rattle.fkv_record.specs.Numbers.{spelled}
use Rattle.fkv_record.specs.Places as image
use Rattle.law_world.specs.Below.fkv_session.Sitting.{Sitting}
use Rattle.law_world.specs.Below.fkv_session.Sitting.TheVariants.{Attempts, Polls}
use Rattle.law_world.specs.Below.fkv_session.Sessions.{SessionState}
use Rattle.law_world.specs.Below.fkv_world.World.{Now}
use Rattle.law_refine.specs.Events.Reserved.{tail_at}
use Rattle.law_refine.specs.Records.Cells.{ShowsCell}

-- the words in the frame of the record at an address
abbrev pub words_framed : Now → ℕ → RecordWord → ℕ
words_framed n a part = word_at n.words (record_place n.places a part)

-- the address has a frame of its own: it is below the tail, and no further than the ring below the limit
pub record IsFramed (n : Now) (a : ℕ) : Type 0 where
  pub below : a < tail_at n
  pub near : (levels_of n.words).limit ≤ a + n.places.ring

-- there is what stands for its record
abbrev pub FramesShow : Now → (ℕ → RecordWord → ℕ) → Type 0
FramesShow n stands = (a : ℕ) (part : RecordWord) → IsFramed n a → words_framed n a part ≡ stands a part

-- and so each published record from this address on shows in its frame
abbrev pub FramesShowLog : ℕ → Now → Log → Type 0
FramesShowLog start n log = (a : ℕ) (cell : Cell) → start ≤ a → IsFramed n a → log.cells a ≡ Published cell → ShowsCell (words_framed n a) cell

-- the session attempts a request, in a call or in a poll
abbrev pub IsAttempting : Sitting → Type 0
IsAttempting (Attempts has_shifted) = ⊤
IsAttempting (Polls index) = ⊤
IsAttempting step = ⊥

-- it finds framed whatever lies from the head that it has seen up to the tail
abbrev pub FindsFramed : Now → SessionState → Type 0
FindsFramed n s = IsAttempting s.step → (a : ℕ) → s.seen.offsets.head.0 ≤ a → a < tail_at n → IsFramed n a

-- the bytes have this record in its place: three words that show it
pub record IsOnDevice (shape : Shape) (bytes : List ℕ) (a : ℕ) (cell : Cell) : Type 0 where
  pub words : RecordWord → ℕ
  pub shows : ShowsCell words cell
  pub there : bytes_at bytes (image.record_place shape a) 24 ≡ spelled (words rec.Header ∷ words rec.Key ∷ words rec.Value ∷ [])

-- a device that was opened with these bytes and called so has each published record from the one address up to the other, and so has all that a crash leaves of it
abbrev pub DeviceShowsLog : Shape → List ℕ → List Call → ℕ → ℕ → Log → Type 0
DeviceShowsLog shape opened calls start flushed log =
    (bytes : List ℕ) → MayShow opened calls bytes → (a : ℕ) (cell : Cell) → start ≤ a → a < flushed → log.cells a ≡ Published cell → IsOnDevice shape bytes a cell
