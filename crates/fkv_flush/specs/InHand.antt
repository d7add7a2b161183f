-- What a flush has in hand: the words of the records that it has loaded, as they were when it loaded them.
use Rattle.std.specs.Prelude.{◌≡◌, ℕ, zero, suc, ◌+◌, ◌-◌, Bool, List, [], ◌∷◌, ◌++◌, length, ⊤}
use Rattle.fkv_record.specs.Numbers.{spelled}
use Rattle.fkv_plane.specs.declared.places.RecordWord.{RecordWord}
use Rattle.fkv_plane.specs.declared.places.RecordWord.TheVariants as rec
use Rattle.fkv_flush.specs.declared.flushing.Flushing.{Flushing}
use Rattle.fkv_flush.specs.declared.flushing.Flushing.TheVariants.{LoadsFlushed, LoadsEnd, LoadsWord, WritesPart}
use Rattle.fkv_flush.specs.Flushing.{IsFlushInRange, flush_next, bytes_next, flush_done, bytes_done}

-- the three words of each of n records from an address on
abbrev pub words_from : (ℕ → RecordWord → ℕ) → ℕ → ℕ → List ℕ
words_from word from zero = []
words_from word from (suc n) = words_from word from n ++ word (from + n) rec.Header ∷ word (from + n) rec.Key ∷ word (from + n) rec.Value ∷ []

-- those of one record that stand before this one
abbrev pub words_before : (ℕ → RecordWord → ℕ) → ℕ → RecordWord → List ℕ
words_before word addr rec.Header = []
words_before word addr rec.Key = word addr rec.Header ∷ []
words_before word addr rec.Value = word addr rec.Header ∷ word addr rec.Key ∷ []

-- The bytes are those of the records' words, from the first of the part on, and where the part is written those of all its records.
abbrev pub HasLoaded : (ℕ → RecordWord → ℕ) → Flushing → List ℕ → Type 0
HasLoaded word LoadsFlushed bytes = bytes ≡ []
HasLoaded word (LoadsEnd flushed) bytes = bytes ≡ []
HasLoaded word (LoadsWord part addr this) bytes = bytes ≡ spelled (words_from word part.from (addr - part.from) ++ words_before word addr this)
HasLoaded word (WritesPart part) bytes = bytes ≡ spelled (words_from word part.from (part.stop - part.from))
HasLoaded word step bytes = ⊤

-- the reply is the word that was asked for
abbrev pub IsAskedWord : (ℕ → RecordWord → ℕ) → Flushing → ℕ → Type 0
IsAskedWord word (LoadsWord part addr this) reply = reply ≡ word addr this
IsAskedWord word step reply = ⊤

-- a flush that is told the records' words comes to write these words
abbrev pub LoadsRecords : Type 0
LoadsRecords = (page : ℕ) (word : ℕ → RecordWord → ℕ) (step : Flushing) (bytes : List ℕ) (reply : ℕ) → IsFlushInRange page (length bytes) step
    → HasLoaded word step bytes → IsAskedWord word step reply → HasLoaded word (flush_next page step reply) (bytes_next step bytes reply)

-- and goes on with the next part after a call of the device
abbrev pub LoadsNextPart : Type 0
LoadsNextPart = (page : ℕ) (word : ℕ → RecordWord → ℕ) (step : Flushing) (bytes : List ℕ) (done : Bool) → HasLoaded word step bytes
    → HasLoaded word (flush_done page step done) (bytes_done step bytes)
