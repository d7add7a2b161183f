-- How the front of the log is swept. Each record from an address on is read from the device. It is passed where it gives its key no value, or where
-- a record of the key is found at or above the address where the sweep ends. Else its key is wanted there.
use Rattle.std.specs.Prelude.{◌≡◌, ℕ, ◌+◌, ◌-◌, ◌*◌, ◌%◌, ◌^◌, ◌<◌, ◌≤◌, ◌==◌, ◌&&◌, not, nat_lt, nat_le, if◌then◌else◌, Bool, true, List, [], ◌∷◌, ◌++◌, length, replicate, ⊤, Option, Some, None}
use Rattle.fkv_base.specs.declared.numbers.Addr.{Addr}
use Rattle.fkv_base.specs.declared.numbers.Key.{Key}
use Rattle.fkv_base.specs.declared.shapes.Shape.{Shape}
use Rattle.fkv_disk.specs.Asks.{AskedCall}
use Rattle.fkv_disk.specs.Asks as disk
use Rattle.fkv_record.specs.Places as record_places
use Rattle.fkv_record.specs.Places.{number_at}
use Rattle.fkv_plane.specs.declared.asks.Ask.{Ask}
use Rattle.fkv_plane.specs.declared.asks.Ask.TheVariants.{Load, Done}
use Rattle.fkv_plane.specs.declared.places.Places.{Places}
use Rattle.fkv_plane.specs.declared.places.SharedWord.TheVariants as one
use Rattle.fkv_plane.specs.declared.places.RecordWord.TheVariants as rec
use Rattle.fkv_plane.specs.Places.{shared_place, record_place}
use Rattle.fkv_plane.specs.Passing.{passed}
use Rattle.fkv_index.specs.declared.finding.Purpose.TheVariants.{Read}
use Rattle.fkv_index.specs.declared.finding.Found.{Found}
use Rattle.fkv_index.specs.declared.finding.Found.TheVariants.{Slot}
use Rattle.fkv_index.specs.declared.finding.FindAnswer.{FindAnswer}
use Rattle.fkv_index.specs.declared.finding.Finding.{Finding}
use Rattle.fkv_index.specs.Slots.{home_of, entry_addr}
use Rattle.fkv_index.specs.Finding.{rested, first_finding, find_ask, find_next, find_next_ask}
use Rattle.fkv_sweep.specs.declared.record_words.Piece.{Piece}
use Rattle.fkv_sweep.specs.declared.record_words.RecordWords.{RecordWords}
use Rattle.fkv_sweep.specs.declared.sweeping.SweepAnswer.{SweepAnswer}
use Rattle.fkv_sweep.specs.declared.sweeping.SweepAnswer.TheVariants as answer
use Rattle.fkv_sweep.specs.declared.sweeping.Sweeping.{Sweeping}
use Rattle.fkv_sweep.specs.declared.sweeping.Sweeping.TheVariants.{AtRest, LoadsHead, Takes, Meets, Finds, LoadsKey, LoadsHeader, Reads}

pub record Sweeper : Type 0 where
  pub shape : Shape
  pub places : Places
  -- where the sweep began, the first record that it hasn't passed, and where it ends
  pub from : Addr
  pub at : Addr
  pub to : Addr
  -- the record that is met, and how many its turn may still meet, that one among them
  pub next : Addr
  pub left : ℕ
  -- records that were read in a row
  pub piece : Piece
  -- the head as its turn has loaded it
  pub head : Addr
  -- the keys that its turn has found wanted
  pub wanted : List Key
  -- the search inside it
  pub finding : Finding
  pub step : Sweeping

-- a turn meets so many records, and has so many wanted keys, at most
abbrev pub most_records : ℕ
most_records = 256

abbrev pub most_wanted : ℕ
most_wanted = 16

-- ---- the words of a record
-- the three words of the record whose bytes begin at a place
abbrev pub words_at : List ℕ → ℕ → RecordWords
words_at bytes at = record { header = number_at bytes at; key = record { 0 = number_at bytes (at + 8) }; value = number_at bytes (at + 16) }

-- so many records are read in a row
abbrev pub piece_records : ℕ
piece_records = 32

abbrev pub piece_bytes : ℕ
piece_bytes = 768

-- the records from an address on, which have these bytes
abbrev pub piece_read : Addr → List ℕ → Piece
piece_read first bytes = record { first = first; end = record { 0 = first.0 + piece_records }; bytes = bytes }

-- the record of an address is among them
abbrev pub holds : Piece → Addr → Bool
holds piece addr = nat_le piece.first.0 addr.0 && nat_lt addr.0 piece.end.0

-- none
abbrev pub no_piece : Piece
no_piece = record { first = record { 0 = 0 }; end = record { 0 = 0 }; bytes = replicate piece_bytes 0 }

-- its words
abbrev pub words_held : Piece → Addr → RecordWords
words_held piece addr = words_at piece.bytes (24 * (addr.0 - piece.first.0))

-- the word of the value of a key that was deleted
abbrev pub absent_word : ℕ
absent_word = 2 ^ 64 - 1

-- A record gives its key a value where its header has a version, and no bit above that: one of them is set where the record was given up. The value
-- is not the absent word then.
abbrev pub is_counted : RecordWords → Bool
is_counted words = nat_le (2 ^ 48) words.header && nat_lt words.header (2 ^ 61) && not (words.value == absent_word)

-- the address that a header leads to is in its low 48 bits
abbrev pub previous_in : ℕ → ℕ
previous_in header = header % 2 ^ 48

-- ---- a sweep
-- It has passed nothing yet, and rests.
abbrev pub sweep_begun : Shape → Places → Addr → Addr → Sweeper
sweep_begun shape p from to = record { shape = shape; places = p; from = from; at = from; to = to; next = from; left = 0; piece = no_piece; head = record { 0 = 0 }; wanted = []; finding = rested 0; step = AtRest }

-- there are records that it hasn't passed
abbrev pub is_sweeping : Sweeper → Bool
is_sweeping s = nat_lt s.at.0 s.to.0

-- A turn begins at the first record that isn't passed. No key is wanted any more: a key that was is probed again.
abbrev pub turn_begun : Sweeper → Sweeper
turn_begun s = record s { next = s.at; left = most_records; wanted = []; step = if is_sweeping s then LoadsHead else AtRest }

-- The record that comes next is taken from the piece, where that has it. Else it is read from the device.
abbrev pub coming : Piece → Addr → Sweeping
coming piece next = if holds piece next then Takes else Meets

-- on to the next record, where there is one for this turn
abbrev pub gone_on : Sweeper → Sweeper
gone_on s = record s {
  next = record { 0 = s.next.0 + 1 };
  left = s.left - 1;
  step = if nat_lt (s.next.0 + 1) s.to.0 && nat_lt 1 s.left && nat_lt (length s.wanted) most_wanted then coming s.piece (record { 0 = s.next.0 + 1 }) else AtRest;
}

-- The record needs no more: it is passed, unless the key of one before it is wanted.
abbrev pub record_passed : Sweeper → Sweeper
record_passed s = gone_on (record s { at = if length s.wanted == 0 then record { 0 = s.next.0 + 1 } else s.at })

-- its key is wanted, and it isn't passed
abbrev pub key_wanted : Sweeper → Key → Sweeper
key_wanted s key = gone_on (record s { wanted = s.wanted ++ key ∷ [] })

-- The chain leads to an address. Below the sweep's end it is followed no more. Below the head its record is read from the device.
abbrev pub reached : Sweeper → Key → ℕ → Sweeper
reached s key addr =
    if nat_lt addr s.to.0 then key_wanted s key else (if nat_lt addr s.head.0 then record s { step = Reads key (record { 0 = addr }) } else record s { step = LoadsKey key (record { 0 = addr }) })

-- A record of the chain leads on to one below itself. No store leads elsewhere.
abbrev pub led_down : Sweeper → Key → Addr → ℕ → Sweeper
led_down s key addr previous = if nat_lt previous addr.0 then reached s key previous else key_wanted s key

-- the search has come to an entry, or to none
abbrev pub slot_found : Sweeper → Key → Found → Sweeper
slot_found s key (Slot place word) = reached s key (entry_addr word)
slot_found s key found = key_wanted s key

-- by what the search asks next
unfoldable pub find_ledto : Sweeper → Key → Ask FindAnswer → Sweeper
find_ledto s key (Done its) = slot_found s key its.found
find_ledto s key ask = s

-- a record of the chain in memory has this key
abbrev pub key_met : Sweeper → Key → Addr → ℕ → Sweeper
key_met s key addr word = if word == key.0 then record_passed s else record s { step = LoadsHeader key addr }

-- one on the device has these words
abbrev pub chain_met : Sweeper → Key → Addr → RecordWords → Sweeper
chain_met s key addr words = if words.key.0 == key.0 then record_passed s else led_down s key addr (previous_in words.header)

-- the record that is met has these words
abbrev pub record_met : Sweeper → RecordWords → Sweeper
record_met s words =
    if is_counted words then record s { finding = first_finding s.places (home_of s.shape.bucket_bits words.key) Read 0; step = Finds words.key } else record_passed s

-- what each state asks; where a record is taken from the piece, its load only says that the sweep goes on
unfoldable pub sweeping_ask : Sweeper → Sweeping → Ask SweepAnswer
sweeping_ask s AtRest = Done answer.Through
sweeping_ask s LoadsHead = Load (shared_place one.Head)
sweeping_ask s Takes = Load (shared_place one.Head)
sweeping_ask s Meets = Done answer.Device
sweeping_ask s (Finds key) = passed (find_ask s.finding) answer.Through
sweeping_ask s (LoadsKey key addr) = Load (record_place s.places addr.0 rec.Key)
sweeping_ask s (LoadsHeader key addr) = Load (record_place s.places addr.0 rec.Header)
sweeping_ask s (Reads key addr) = Done answer.Device

abbrev pub sweep_ask : Sweeper → Ask SweepAnswer
sweep_ask s = sweeping_ask s s.step

-- the place of the word that is loaded, if one is
abbrev pub load_place : Ask SweepAnswer → Option ℕ
load_place (Load place) = Some place
load_place ask = None

abbrev pub sweep_word_due : Sweeper → Option ℕ
sweep_word_due s = load_place (sweep_ask s)

-- the record that comes next has the words that the piece has of it
abbrev pub next_met : Sweeper → Sweeper
next_met s = record_met s (words_held s.piece s.next)

-- where the reply leads
unfoldable pub sweeping_next : Sweeper → Sweeping → ℕ → Sweeper
sweeping_next s AtRest reply = s
sweeping_next s LoadsHead reply = record s { head = record { 0 = reply }; step = coming s.piece s.next }
sweeping_next s Takes reply = next_met s
sweeping_next s Meets reply = s
sweeping_next s (Finds key) reply = find_ledto (record s { finding = find_next s.places s.finding reply }) key (find_next_ask s.places s.finding reply)
sweeping_next s (LoadsKey key addr) reply = key_met s key addr reply
sweeping_next s (LoadsHeader key addr) reply = led_down s key addr (previous_in reply)
sweeping_next s (Reads key addr) reply = s

abbrev pub sweep_next : Sweeper → ℕ → Sweeper
sweep_next s reply = sweeping_next s s.step reply

-- where the bytes that were read lead; without a read it stays where it is
unfoldable pub sweeping_read : Sweeper → Sweeping → List ℕ → Sweeper
sweeping_read s Meets bytes = next_met (record s { piece = piece_read s.next bytes })
sweeping_read s (Reads key addr) bytes = chain_met s key addr (words_at bytes 0)
sweeping_read s step bytes = s

abbrev pub sweep_read : Sweeper → List ℕ → Sweeper
sweep_read s bytes = sweeping_read s s.step bytes

-- the address whose record is read from the device, if one is
unfoldable pub sweeping_addr : Sweeper → Sweeping → Option Addr
sweeping_addr s Meets = Some s.next
sweeping_addr s (Reads key addr) = Some addr
sweeping_addr s step = None

abbrev pub read_addr : Sweeper → Option Addr
read_addr s = sweeping_addr s s.step

-- each read is of the bytes of a piece
abbrev pub read_of : Shape → Option Addr → Option AskedCall
read_of shape None = None
read_of shape (Some addr) = Some (disk.Reads (record_places.record_place shape addr.0) piece_bytes)

abbrev pub read_asked : Sweeper → Option AskedCall
read_asked s = read_of s.shape (read_addr s)

-- where it lies
abbrev pub place_of : Shape → Option Addr → ℕ
place_of shape None = 0
place_of shape (Some addr) = record_places.record_place shape addr.0

abbrev pub read_place : Sweeper → ℕ
read_place s = place_of s.shape (read_addr s)

-- after a call of the device that failed it rests
abbrev pub sweep_failed : Sweeper → Sweeper
sweep_failed s = record s { step = AtRest }

-- ---- what holds of the numbers
-- a record is met that there is, at an address that 48 bits hold, the turn may meet it, and one more key may be wanted
pub record IsUnderWay (s : Sweeper) : Type 0 where
  pub below : s.next.0 < s.to.0
  pub low : s.to.0 ≤ 2 ^ 48
  pub some : 0 < s.left
  pub room : length s.wanted < most_wanted

abbrev pub IsStepInRange : Sweeper → Sweeping → Type 0
IsStepInRange s AtRest = ⊤
IsStepInRange s LoadsHead = IsUnderWay s
IsStepInRange s Takes = IsUnderWay s × (holds s.piece s.next ≡ true)
IsStepInRange s Meets = IsUnderWay s
IsStepInRange s (Finds key) = IsUnderWay s
IsStepInRange s (LoadsKey key addr) = IsUnderWay s
IsStepInRange s (LoadsHeader key addr) = IsUnderWay s
IsStepInRange s (Reads key addr) = IsUnderWay s × (addr.0 < 2 ^ 48)

pub record IsSweepInRange (s : Sweeper) : Type 0 where
  pub its_end : s.at.0 < s.to.0 → s.to.0 ≤ 2 ^ 48
  pub few : s.piece.end.0 ≤ s.piece.first.0 + piece_records
  pub its_step : IsStepInRange s s.step
