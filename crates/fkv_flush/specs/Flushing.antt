-- How records that nobody writes any more get to the device.
use Rattle.std.specs.Prelude.{◌≡◌, ℕ, ◌+◌, ◌-◌, ◌*◌, ◌/◌, ◌^◌, ◌<◌, ◌≤◌, ◌&&◌, min, nat_lt, if◌then◌else◌, Bool, true, false, List, [], ◌∷◌, ◌++◌, ⊤, Option, Some, None}
use Rattle.std.specs.Int.{w64, to_le_bytes}
use Rattle.fkv_base.specs.declared.shapes.Shape.{Shape}
use Rattle.fkv_record.specs.Places as image
use Rattle.fkv_disk.specs.Calls.{Call, Write, Sync}
use Rattle.fkv_plane.specs.declared.asks.Ask.{Ask}
use Rattle.fkv_plane.specs.declared.asks.Ask.TheVariants.{Load, Max, Done}
use Rattle.fkv_plane.specs.declared.places.Places.{Places}
use Rattle.fkv_plane.specs.declared.places.SharedWord.TheVariants as one
use Rattle.fkv_plane.specs.declared.places.RecordWord.TheVariants as rec
use Rattle.fkv_plane.specs.Places.{shared_place, record_place, record_number}
use Rattle.fkv_flush.specs.declared.answers.DeviceAnswer.{DeviceAnswer}
use Rattle.fkv_flush.specs.declared.answers.DeviceAnswer.TheVariants as answer
use Rattle.fkv_flush.specs.declared.flushing.Part.{Part}
use Rattle.fkv_flush.specs.declared.flushing.Flushing.{Flushing}
use Rattle.fkv_flush.specs.declared.flushing.Flushing.TheVariants.{AtRest, LoadsFlushed, LoadsEnd, LoadsWord, WritesPart, Syncs, RaisesFlushed}

-- the bytes are those of the words that it has in hand, eight for each
pub record Flusher : Type 0 where
  pub shape : Shape
  pub places : Places
  pub bytes : List ℕ
  pub step : Flushing

-- the records from an address on up to the end of its page, or to that of the flush
abbrev pub part_from : ℕ → ℕ → ℕ → Part
part_from page from end = record { from = from; stop = min end ((from / page + 1) * page); end = end }

-- a part has some records, and they are those of one page at most
pub record IsPart (page : ℕ) (part : Part) : Type 0 where
  pub some_records : part.from < part.stop
  pub within : part.stop ≤ part.end
  pub one_page : part.stop ≤ part.from + page
  pub are_addresses : part.end < 2 ^ 48

-- three words of a record, and those of the records of the part before it, are in hand
pub record IsInHand (page : ℕ) (part : Part) (addr words bytes : ℕ) : Type 0 where
  pub is_part : IsPart page part
  pub after : part.from ≤ addr
  pub before : addr < part.stop
  pub in_hand : bytes ≡ 24 * (addr - part.from) + 8 * words

-- what is known of how many bytes there are
abbrev pub IsFlushInRange : ℕ → ℕ → Flushing → Type 0
IsFlushInRange page bytes AtRest = ⊤
IsFlushInRange page bytes LoadsFlushed = bytes ≡ 0
IsFlushInRange page bytes (LoadsEnd flushed) = bytes ≡ 0
IsFlushInRange page bytes (LoadsWord part addr word) = IsInHand page part addr (record_number word) bytes
IsFlushInRange page bytes (WritesPart part) = IsPart page part
IsFlushInRange page bytes (Syncs end) = ⊤
IsFlushInRange page bytes (RaisesFlushed end) = ⊤

-- what each state asks
unfoldable pub flush_ask : Places → Flushing → Ask DeviceAnswer
flush_ask places AtRest = Done answer.Through
flush_ask places LoadsFlushed = Load (shared_place one.Flushed)
flush_ask places (LoadsEnd flushed) = Load (shared_place one.SafeReadOnly)
flush_ask places (LoadsWord part addr word) = Load (record_place places addr word)
flush_ask places (WritesPart part) = Done answer.Device
flush_ask places (Syncs end) = Done answer.Device
flush_ask places (RaisesFlushed end) = Max (shared_place one.Flushed) end

-- the place of the record's word that it loads, if it loads one
abbrev pub word_due : Places → Flushing → Option ℕ
word_due places (LoadsWord part addr word) = Some (record_place places addr word)
word_due places step = None

-- a part is loaded from its first record on
abbrev pub part_begun : ℕ → ℕ → ℕ → Flushing
part_begun page from end = LoadsWord (part_from page from end) from rec.Header

-- the record after this one is loaded, and the part is written after its last
abbrev pub record_after : Part → ℕ → Flushing
record_after part addr = if nat_lt (addr + 1) part.stop then LoadsWord part (addr + 1) rec.Header else WritesPart part

-- Where the reply leads. There is something to flush where flushed is below the safe read-only offset; an address is below 2^48.
unfoldable pub flush_next : ℕ → Flushing → ℕ → Flushing
flush_next page AtRest reply = AtRest
flush_next page LoadsFlushed reply = LoadsEnd reply
flush_next page (LoadsEnd flushed) reply = if nat_lt flushed reply && nat_lt reply (2 ^ 48) then part_begun page flushed reply else AtRest
flush_next page (LoadsWord part addr rec.Header) reply = LoadsWord part addr rec.Key
flush_next page (LoadsWord part addr rec.Key) reply = LoadsWord part addr rec.Value
flush_next page (LoadsWord part addr rec.Value) reply = record_after part addr
flush_next page (WritesPart part) reply = WritesPart part
flush_next page (Syncs end) reply = Syncs end
flush_next page (RaisesFlushed end) reply = AtRest

-- the bytes in hand after the reply
unfoldable pub bytes_next : Flushing → List ℕ → ℕ → List ℕ
bytes_next (LoadsWord part addr word) bytes reply = bytes ++ to_le_bytes w64 reply
bytes_next step bytes reply = bytes

-- the call of the device that a state makes, and whether it succeeded
unfoldable pub flush_calls : Shape → List ℕ → Flushing → Bool → List Call
flush_calls shape bytes (WritesPart part) done = Write (image.record_place shape part.from) bytes done ∷ []
flush_calls shape bytes (Syncs end) done = Sync done ∷ []
flush_calls shape bytes step done = []

-- Where the call leads: the next part is loaded, and after the last one comes the sync. A failure ends it all.
unfoldable pub flush_done : ℕ → Flushing → Bool → Flushing
flush_done page (WritesPart part) true = if nat_lt part.stop part.end then part_begun page part.stop part.end else Syncs part.end
flush_done page (Syncs end) true = RaisesFlushed end
flush_done page (WritesPart part) false = AtRest
flush_done page (Syncs end) false = AtRest
flush_done page step done = step

-- nothing is in hand after a write
unfoldable pub bytes_done : Flushing → List ℕ → List ℕ
bytes_done (WritesPart part) bytes = []
bytes_done step bytes = bytes

-- how many bytes are in hand after the reply, and after the call
unfoldable pub count_next : Flushing → ℕ → ℕ
count_next (LoadsWord part addr word) n = n + 8
count_next step n = n

unfoldable pub count_done : Flushing → ℕ → ℕ
count_done (WritesPart part) n = 0
count_done step n = n

-- the record that is loaded is one of its part, and a part that is written lies below 2^48
abbrev pub IsWithin : Flushing → Type 0
IsWithin (LoadsWord part addr word) = addr < part.stop
IsWithin (WritesPart part) = (part.from < 2 ^ 48) × (part.stop < 2 ^ 48)
IsWithin step = ⊤

-- a word that is loaded fits into the buffer
abbrev pub HasRoom : Flushing → ℕ → ℕ → Type 0
HasRoom (LoadsWord part addr word) n room = n + 8 ≤ room
HasRoom step n room = ⊤
