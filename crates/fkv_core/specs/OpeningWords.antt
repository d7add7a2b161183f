-- The shared words of a store that opens, in the order of their places.
use Rattle.std.specs.Prelude.{◌≡◌, ℕ, zero, suc, ◌+◌, ◌*◌, ◌^◌, ◌%◌, nat_eq, if◌then◌else◌, List, [], ◌∷◌, ◌++◌, length, map, replicate, slice_index, slice_set}
use Rattle.fkv_base.specs.Limits.{drain_slots}
use Rattle.fkv_base.specs.declared.phases.Phase.TheVariants.{Rest}
use Rattle.fkv_marks.specs.Marks.{mark}
use Rattle.fkv_words.specs.Layout.{phase_spelled}
use Rattle.fkv_words.specs.Phases.{phase_number}
use Rattle.fkv_plane.specs.declared.places.SharedWord.{SharedWord}
use Rattle.fkv_plane.specs.declared.places.SharedWord.TheVariants as one
use Rattle.fkv_plane.specs.declared.places.SessionWord.{SessionWord}
use Rattle.fkv_plane.specs.declared.places.SessionWord.TheVariants as own
use Rattle.fkv_filling.specs.Filled.{IsFilled}
use Rattle.fkv_opening.specs.Opening.{opening_limit, point_of}
use Rattle.fkv_opening.specs.declared.opened_store.Opened.{Opened}

-- The words that the store has once, where so many overflow buckets are taken: epoch 1 and none safe, at rest in the version behind the commit's, and
-- all offsets at the log's end, but for the room that is open to new records, and for head and closed, from which on memory has the records.
abbrev pub shared_word : Opened → ℕ → SharedWord → ℕ
shared_word o taken one.Epoch = 1
shared_word o taken one.SafeEpoch = 0
shared_word o taken one.Phase = phase_spelled (o.number.0 + 1) (phase_number Rest)
shared_word o taken one.Tail = o.tail.0
shared_word o taken one.Limit = opening_limit o
shared_word o taken one.ReadOnly = o.tail.0
shared_word o taken one.SafeReadOnly = o.tail.0
shared_word o taken one.Flushed = o.tail.0
shared_word o taken one.Head = o.warm.0
shared_word o taken one.Closed = o.warm.0
shared_word o taken one.Taken = taken

-- the cut word of the commit's parity has the mark of its number and the session's point; the other one is 0
abbrev pub opening_cut : Opened → ℕ → ℕ → ℕ
opening_cut o session parity = if nat_eq (o.number.0 % 2) parity then point_of o session + mark o.number.0 * 2 ^ 48 else 0

-- a session is protected in epoch 1, cut at the commit, durable up to its point, and owes and asks for nothing
abbrev pub session_word : Opened → ℕ → SessionWord → ℕ
session_word o session own.Epoch = 1
session_word o session own.EvenCut = opening_cut o session 0
session_word o session own.OddCut = opening_cut o session 1
session_word o session own.Owing = 0
session_word o session own.Durable = point_of o session
session_word o session own.MailState = 0
session_word o session own.MailAddress = 0
session_word o session own.MailHeader = 0
session_word o session own.MailKey = 0
session_word o session own.MailValue = 0

-- sixteen places for the words that the store has once, of which the last five have none, and the drain slots, all free
abbrev pub words_once : Opened → ℕ → List ℕ
words_once o taken =
    map (shared_word o taken) (one.Epoch ∷ one.SafeEpoch ∷ one.Phase ∷ one.Tail ∷ one.Limit ∷ one.ReadOnly ∷ one.SafeReadOnly ∷ one.Flushed ∷ one.Head ∷ one.Closed ∷ one.Taken ∷ [])
    ++ replicate 5 0 ++ replicate drain_slots 0

-- sixteen for each session, of which the last six have none
abbrev pub words_of_session : Opened → ℕ → List ℕ
words_of_session o session =
    map (session_word o session) (own.Epoch ∷ own.EvenCut ∷ own.OddCut ∷ own.Owing ∷ own.Durable ∷ own.MailState ∷ own.MailAddress ∷ own.MailHeader ∷ own.MailKey ∷ own.MailValue ∷ [])
    ++ replicate 6 0

-- those of the first so many sessions
unfoldable pub words_of_sessions : Opened → ℕ → List ℕ
words_of_sessions o zero = []
words_of_sessions o (suc n) = words_of_sessions o n ++ words_of_session o n

-- all words before the frames, with these of the index
abbrev pub words_before_frames : Opened → List ℕ → ℕ → List ℕ
words_before_frames o index taken = words_once o taken ++ words_of_sessions o o.shape.sessions ++ index

-- words laid one after another round a ring of so many words, which begins at a base, from one of its words on: the first so many
unfoldable pub laid_round : ℕ → ℕ → ℕ → List ℕ → List ℕ → ℕ → List ℕ
laid_round base size first laid words zero = words
laid_round base size first laid words (suc n) = slice_set (laid_round base size first laid words n) (base + (first + n) % size) (slice_index laid n)

-- how many words all frames have together
abbrev pub ring_words : Opened → ℕ
ring_words o = 3 * (o.shape.frames * o.shape.page)

-- and where among them the words begin of the first record that memory has
abbrev pub warm_place : Opened → ℕ
warm_place o = 3 * (o.warm.0 % (o.shape.frames * o.shape.page))

-- the words of the frames: each record that memory has lies at the place of its address, and the rest is 0
abbrev pub frames_of : Opened → List ℕ
frames_of o = laid_round 0 (ring_words o) (warm_place o) o.frames.items (replicate (ring_words o) 0) (length o.frames.items)

-- All words: the index is filled with the store's entries, and the frames with the records that memory has.
pub record AreWordsOfOpened (o : Opened) (words : List ℕ) : Type 0 where
  pub index : List ℕ
  pub taken : ℕ
  pub filled : IsFilled (2 ^ o.shape.bucket_bits) o.shape.overflow o.entries.items index taken
  pub whole : words ≡ words_before_frames o index taken ++ frames_of o
