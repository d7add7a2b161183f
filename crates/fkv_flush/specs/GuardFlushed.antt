-- What is flushed: the words that stand for each record, the calls of the device that the events make, and that all below the flushed
-- offset is synced as it stands.
use Rattle.std.specs.Prelude.{◌≡◌, ◌≢◌, ◌⊎◌, ℕ, ◌+◌, ◌<◌, ◌≤◌, nat_lt, nat_le, ◌&&◌, if◌then◌else◌, Bool, true, List, [], ◌∷◌, ◌++◌, length, slice_get, Option, Some, None, ⊤}
use Rattle.fkv_base.specs.declared.shapes.Shape.{Shape}
use Rattle.fkv_record.specs.Numbers.{spelled}
use Rattle.fkv_record.specs.Places as image
use Rattle.fkv_disk.specs.Bytes.{byte_at, bytes_at, range_end}
use Rattle.fkv_disk.specs.Calls.{Call, Write, Sync, ReadsAs, MayLeave}
use Rattle.fkv_plane.specs.declared.places.RecordWord.{RecordWord}
use Rattle.fkv_plane.specs.declared.places.RecordWord.TheVariants as rec
use Rattle.fkv_plane.specs.Places.{record_place}
use Rattle.fkv_plane.specs.Asked.{word_at}
use Rattle.fkv_flush.specs.Flushing.{flush_calls}
use Rattle.fkv_flush.specs.GuardLevels.{levels_of}
use Rattle.fkv_flush.specs.Guarded.{event_writes}
use Rattle.fkv_flush.specs.GuardWorld.{Actor, Work, Flushes, ToFlush, GuardNow, GuardWorld, GuardEvent, Begins, Calls, CallsElse, guard_run}

-- the address is one of the last of the ring below the limit: it has a frame
abbrev pub is_open : GuardNow → ℕ → Bool
is_open n addr = nat_lt addr (levels_of n.words).limit && nat_le (levels_of n.words).limit (addr + n.places.ring)

-- the words of the record at an address: those in its frame where it has one, and else those before
abbrev pub framed : GuardNow → (ℕ → RecordWord → ℕ) → ℕ → RecordWord → ℕ
framed n before addr word = if is_open n addr then word_at n.words (record_place n.places addr word) else before addr word

-- What stands for each record since the opening, once there is one: the words in its frame as long as it has one, and from then on those that it had
-- last. Older records are on the device alone.
unfoldable pub stands : GuardWorld → List GuardEvent → ℕ → RecordWord → ℕ
stands opening [] = framed opening.now (λ addr word. 0)
stands opening (event ∷ before) = framed (guard_run opening (event ∷ before)).now (stands opening before)

-- the event doesn't write this word of the record's frame, as long as it has one
abbrev pub SparesRecord : GuardNow → GuardEvent → ℕ → RecordWord → Type 0
SparesRecord n event addr word = is_open n addr ≡ true → event_writes n event ≢ Some (record_place n.places addr word)

-- a sync, or a write that ends at the latest where the log begins
abbrev pub spares_log : Shape → Call → Bool
spares_log shape (Write at bytes done) = nat_le (range_end at (length bytes)) (image.record_place shape 0)
spares_log shape (Sync done) = true

abbrev pub work_calls : GuardNow → Bool → Work → List Call
work_calls n done (Flushes step bytes) = flush_calls n.shape bytes step done
work_calls n done work = []

abbrev pub actor_calls : GuardNow → Bool → Option Actor → List Call
actor_calls n done None = []
actor_calls n done (Some x) = work_calls n done x.work

-- the writes and syncs that an event makes
abbrev pub event_calls : GuardNow → GuardEvent → List Call
event_calls n (Calls actor done) = actor_calls n done (slice_get n.actors actor)
event_calls n (CallsElse call) = if spares_log n.shape call then call ∷ [] else []
event_calls n event = []

-- those of a whole run, the newest first
unfoldable pub calls_made : GuardWorld → List GuardEvent → List Call
calls_made opening [] = []
calls_made opening (event ∷ before) = event_calls (guard_run opening before).now event ++ calls_made opening before

-- no other actor begins to flush
abbrev pub FlushesAlone : ℕ → GuardEvent → Type 0
FlushesAlone keeper (Begins actor ToFlush) = actor ≡ keeper
FlushesAlone keeper event = ⊤

-- in a whole run one actor alone flushes
abbrev pub OneFlushes : ℕ → List GuardEvent → Type 0
OneFlushes keeper [] = ⊤
OneFlushes keeper (event ∷ before) = FlushesAlone keeper event × OneFlushes keeper before

-- a device that was opened with these bytes, and has been called so, reads as this, or a crash leaves this of it
abbrev pub MayShow : List ℕ → List Call → List ℕ → Type 0
MayShow opened calls bytes = ReadsAs opened calls bytes ⊎ MayLeave opened calls bytes

-- the bytes have the three words in the place of the record
abbrev pub ShowsRecord : Shape → (ℕ → RecordWord → ℕ) → ℕ → List ℕ → Type 0
ShowsRecord shape words addr bytes = bytes_at bytes (image.record_place shape addr) 24 ≡ spelled (words addr rec.Header ∷ words addr rec.Key ∷ words addr rec.Value ∷ [])

-- The log on the device, opened where its records ended at start, and flushed up to here: it shows each record since as that stands, and what was
-- there before is as it was; so it does whatever a crash leaves of it.
pub record IsSynced (shape : Shape) (opened : List ℕ) (calls : List Call) (words : ℕ → RecordWord → ℕ) (start flushed : ℕ) : Type 0 where
  pub records : (bytes : List ℕ) → MayShow opened calls bytes → (addr : ℕ) → start ≤ addr → addr < flushed → ShowsRecord shape words addr bytes
  pub earlier : (bytes : List ℕ) → MayShow opened calls bytes → (i : ℕ) → image.record_place shape 0 ≤ i → i < image.record_place shape start → i < length opened
      → byte_at bytes i ≡ byte_at opened i
