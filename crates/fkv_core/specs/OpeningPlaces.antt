-- Where the words of a store that opens stand, as the opened store tells them, and that its sessions have seen them.
use Rattle.std.specs.Prelude.{◌≡◌, ℕ, ◌<◌, List, Some, slice_get}
use Rattle.fkv_base.specs.Limits.{drain_slots}
use Rattle.fkv_words.specs.Layout.{cut_word, wide_word}
use Rattle.fkv_plane.specs.Asked.{word_at}
use Rattle.fkv_plane.specs.Places.{drain_place, session_place, shared_place}
use Rattle.fkv_plane.specs.declared.places.SessionWord.TheVariants as own
use Rattle.fkv_plane.specs.declared.places.SharedWord.TheVariants as one
use Rattle.fkv_opening.specs.Opening.{AreOpeningWords, AreSessionWords}
use Rattle.fkv_opening.specs.declared.opened_store.Opened.{Opened}
use Rattle.fkv_opening.specs.declared.opening_words.OpeningWords.{OpeningWords}
use Rattle.fkv_opening.specs.declared.opening_words.SessionWords.{SessionWords}
use Rattle.fkv_session.specs.Sessions.{SessionState}

-- each word that the store has once stands at its place, and so does the word of each drain slot
pub record StandOnce (its : OpeningWords) (words : List ℕ) : Type 0 where
  pub epoch : word_at words (shared_place one.Epoch) ≡ its.epoch
  pub safe_epoch : word_at words (shared_place one.SafeEpoch) ≡ its.safe_epoch
  pub phase : word_at words (shared_place one.Phase) ≡ wide_word its.phase
  pub tail : word_at words (shared_place one.Tail) ≡ its.tail.0
  pub limit : word_at words (shared_place one.Limit) ≡ its.limit.0
  pub read_only : word_at words (shared_place one.ReadOnly) ≡ its.read_only.0
  pub safe_read_only : word_at words (shared_place one.SafeReadOnly) ≡ its.safe_read_only.0
  pub flushed : word_at words (shared_place one.Flushed) ≡ its.flushed.0
  pub head : word_at words (shared_place one.Head) ≡ its.head.0
  pub closed : word_at words (shared_place one.Closed) ≡ its.closed.0
  pub drain : (slot : ℕ) → slot < drain_slots → word_at words (drain_place slot) ≡ its.drain

-- so does each word of a session
pub record StandOfSession (session : ℕ) (its : SessionWords) (words : List ℕ) : Type 0 where
  pub epoch : word_at words (session_place session own.Epoch) ≡ its.epoch
  pub even_cut : word_at words (session_place session own.EvenCut) ≡ cut_word its.even_cut
  pub odd_cut : word_at words (session_place session own.OddCut) ≡ cut_word its.odd_cut
  pub owing : word_at words (session_place session own.Owing) ≡ its.owing
  pub durable : word_at words (session_place session own.Durable) ≡ its.durable.0
  pub mail_state : word_at words (session_place session own.MailState) ≡ its.mail_state
  pub mail_address : word_at words (session_place session own.MailAddress) ≡ its.mail_address
  pub mail_header : word_at words (session_place session own.MailHeader) ≡ its.mail_header
  pub mail_key : word_at words (session_place session own.MailKey) ≡ its.mail_key
  pub mail_value : word_at words (session_place session own.MailValue) ≡ its.mail_value

-- All of them are what the opened store tells of itself and of its sessions.
pub record StandAsTold (o : Opened) (words : List ℕ) : Type 0 where
  pub once : (its : OpeningWords) → AreOpeningWords o its → StandOnce its words
  pub sessions : (session : ℕ) (its : SessionWords) → session < o.shape.sessions → AreSessionWords o session its → StandOfSession session its words

-- a session has seen what these words show, and its last serial is its durable one
pub record HasSeen (once : OpeningWords) (its : SessionWords) (s : SessionState) : Type 0 where
  pub phase : s.seen.phase ≡ once.phase.phase
  pub version : s.seen.version.0 ≡ once.phase.version.0
  pub head : s.seen.offsets.head ≡ once.head
  pub read_only : s.seen.offsets.read_only ≡ once.read_only
  pub serial : s.serial ≡ its.durable.0

-- So has each session of what the opened store tells.
abbrev pub HaveSeen : Opened → List SessionState → Type 0
HaveSeen o sessions = (session : ℕ) (s : SessionState) (once : OpeningWords) (its : SessionWords) → slice_get sessions session ≡ Some s → AreOpeningWords o once → AreSessionWords o session its → HasSeen once its s
