-- Where each shared word stands, and that no two names stand at one place.
use Rattle.std.specs.Prelude.{◌≡◌, ℕ, ◌+◌, ◌-◌, ◌*◌, ◌%◌, ◌<◌, ◌≤◌, ⊤}
use Rattle.fkv_base.specs.Limits.{drain_slots}
use Rattle.fkv_plane.specs.declared.places.SharedWord.{SharedWord}
use Rattle.fkv_plane.specs.declared.places.SharedWord.TheVariants as one
use Rattle.fkv_plane.specs.declared.places.SessionWord.{SessionWord}
use Rattle.fkv_plane.specs.declared.places.SessionWord.TheVariants as own
use Rattle.fkv_plane.specs.declared.places.RecordWord.{RecordWord}
use Rattle.fkv_plane.specs.declared.places.RecordWord.TheVariants as rec
use Rattle.fkv_plane.specs.declared.places.Places.{Places}

-- the words that the store has once, from 0 on
abbrev pub shared_place : SharedWord → ℕ
shared_place one.Epoch = 0
shared_place one.SafeEpoch = 1
shared_place one.Phase = 2
shared_place one.Tail = 3
shared_place one.Limit = 4
shared_place one.ReadOnly = 5
shared_place one.SafeReadOnly = 6
shared_place one.Flushed = 7
shared_place one.Head = 8
shared_place one.Closed = 9
shared_place one.Taken = 10

-- eight drain slots
abbrev pub drain_place : ℕ → ℕ
drain_place slot = 16 + slot

abbrev pub session_number : SessionWord → ℕ
session_number own.Epoch = 0
session_number own.EvenCut = 1
session_number own.OddCut = 2
session_number own.Owing = 3
session_number own.Durable = 4
session_number own.MailState = 5
session_number own.MailAddress = 6
session_number own.MailHeader = 7
session_number own.MailKey = 8
session_number own.MailValue = 9

-- a block of sixteen words for each session
abbrev pub session_place : ℕ → SessionWord → ℕ
session_place session word = 24 + 16 * session + session_number word

-- eight words for each bucket, then for each overflow bucket
abbrev pub bucket_place : Places → ℕ → ℕ → ℕ
bucket_place p bucket word = 24 + 16 * p.sessions + 8 * bucket + word

abbrev pub overflow_place : Places → ℕ → ℕ → ℕ
overflow_place p number word = bucket_place p (p.buckets + (number - 1)) word

abbrev pub record_number : RecordWord → ℕ
record_number rec.Header = 0
record_number rec.Key = 1
record_number rec.Value = 2

abbrev pub frames_start : Places → ℕ
frames_start p = 24 + 16 * p.sessions + 8 * (p.buckets + p.overflow)

-- three words for each record of the ring
abbrev pub ring_place : Places → ℕ → RecordWord → ℕ
ring_place p index word = frames_start p + 3 * index + record_number word

-- an address has the words of its place in the ring
abbrev pub record_place : Places → ℕ → RecordWord → ℕ
record_place p addr word = ring_place p (addr % p.ring) word

abbrev pub word_count : Places → ℕ
word_count p = frames_start p + 3 * p.ring

-- the name of a word
pub data Name : Type 0 where
  Shared : SharedWord → Name
  Drain : ℕ → Name
  Session : ℕ → SessionWord → Name
  Bucket : ℕ → ℕ → Name
  Overflow : ℕ → ℕ → Name
  Record : ℕ → RecordWord → Name

-- the words that a store has
abbrev pub IsWord : Places → Name → Type 0
IsWord p (Shared word) = ⊤
IsWord p (Drain slot) = slot < drain_slots
IsWord p (Session session word) = session < p.sessions
IsWord p (Bucket bucket word) = (bucket < p.buckets) × (word < 8)
IsWord p (Overflow number word) = (1 ≤ number) × (number ≤ p.overflow) × (word < 8)
IsWord p (Record index word) = index < p.ring

-- the place of each
abbrev pub place : Places → Name → ℕ
place p (Shared word) = shared_place word
place p (Drain slot) = drain_place slot
place p (Session session word) = session_place session word
place p (Bucket bucket word) = bucket_place p bucket word
place p (Overflow number word) = overflow_place p number word
place p (Record index word) = ring_place p index word

-- each word has a place of its own, and all places are below the count of words
abbrev pub ArePlacesApart : Type 0
ArePlacesApart = (p : Places) (a b : Name) → IsWord p a → IsWord p b → place p a ≡ place p b → a ≡ b

abbrev pub ArePlacesBelow : Type 0
ArePlacesBelow = (p : Places) (a : Name) → IsWord p a → place p a < word_count p
