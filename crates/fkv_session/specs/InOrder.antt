-- In which order a session tells where it leaves a version: the cut word, behind it the owing word, and only then its epoch word.
use Rattle.std.specs.Prelude.{◌≡◌, ◌≢◌, ◌≤◌, ℕ, ◌+◌, ◌==◌, if◌then◌else◌, Option, Some, None, List, [], ◌∷◌, ⊤}
use Rattle.fkv_plane.specs.declared.asks.Ask.{Ask}
use Rattle.fkv_plane.specs.declared.asks.Ask.TheVariants.{Load, Store}
use Rattle.fkv_plane.specs.declared.places.SharedWord.TheVariants as one
use Rattle.fkv_plane.specs.declared.places.SessionWord.TheVariants as own
use Rattle.fkv_plane.specs.Places.{shared_place, session_place}
use Rattle.fkv_ops.specs.declared.requests.Seen.{Seen}
use Rattle.fkv_words.specs.declared.phase_words.PhaseSaid.{PhaseSaid}
use Rattle.fkv_words.specs.declared.phase_words.PhaseSaid.TheVariants.{Says, Spoiled}
use Rattle.fkv_words.specs.PhaseWords.{phase_said}
use Rattle.fkv_session.specs.declared.answers.Told.{Told}
use Rattle.fkv_session.specs.declared.sessions.Sitting.{Sitting}
use Rattle.fkv_session.specs.declared.sessions.Sitting.TheVariants.{CatchesUp}
use Rattle.fkv_session.specs.CatchingUp.{version_before, cut_of, cut_at, owing}
use Rattle.fkv_session.specs.Sessions.{SessionState, Seat, session_ask}
use Rattle.fkv_session.specs.SessionRun.{SessionEvent, Replies, session_run}
use Rattle.fkv_session.specs.Words.{left_with, serial_left}

-- what the session goes by, and while it catches up what it takes up
abbrev pub taken_at : SessionState → Sitting → Seen
taken_at s (CatchesUp cause) = s.catching.seen
taken_at s step = s.seen

abbrev pub taken_up : SessionState → Seen
taken_up s = taken_at s s.step

-- the serial at which it has left the version before that, or leaves it now
abbrev pub left_at : SessionState → Option ℕ → Option ℕ
left_at s left = left_with ((taken_up s).version.0 == s.seen.version.0) s.serial left

abbrev pub serial_leaving : Seat → SessionState → List SessionEvent → Option ℕ
serial_leaving k opening events = left_at (session_run k opening events) (serial_left k opening events)

-- the cut word and the owing word of that version: where they stand, and what they tell
abbrev pub cut_place : Seat → SessionState → ℕ
cut_place k s = session_place k.number (cut_of (version_before (taken_up s)).0)

abbrev pub cut_told : SessionState → ℕ → ℕ
cut_told s serial = cut_at serial (version_before (taken_up s)).0

abbrev pub owing_place : Seat → ℕ
owing_place k = session_place k.number own.Owing

abbrev pub owing_told : SessionState → ℕ
owing_told s = owing (taken_up s) s.requests

-- At each moment the session is about to store the cut word of the version that it leaves; or that is told, and it is about to store the
-- owing word; or both are told.
pub data AreToldInOrder (k : Seat) (s : SessionState) (words : ℕ → ℕ) (serial : ℕ) : Type 0 where
  TellsCut : session_ask k s ≡ Store (cut_place k s) (cut_told s serial) → AreToldInOrder k s words serial
  TellsOwing : words (cut_place k s) ≡ cut_told s serial → session_ask k s ≡ Store (owing_place k) (owing_told s) → AreToldInOrder k s words serial
  HasTold : words (cut_place k s) ≡ cut_told s serial → words (owing_place k) ≡ owing_told s → AreToldInOrder k s words serial

-- so many are told as wait, or one more
pub record IsOwedOrOneMore (told waiting : ℕ) : Type 0 where
  pub no_fewer : waiting ≤ told
  pub one_more : told ≤ waiting + 1

-- an ask and the reply to it
pub record Exchange : Type 0 where
  pub ask : Ask Told
  pub reply : ℕ

abbrev pub exchanged_by : Seat → SessionState → Sitting → SessionEvent → List Exchange → List Exchange
exchanged_by k s (CatchesUp cause) (Replies reply) before = record { ask = session_ask k s; reply = reply } ∷ before
exchanged_by k s (CatchesUp cause) event before = before
exchanged_by k s step event before = []

-- what the session has asked since it began to catch up, the newest first
unfoldable pub exchanged : Seat → SessionState → List SessionEvent → List Exchange
exchanged k opening [] = []
exchanged k opening (event ∷ before) = exchanged_by k (session_run k opening before) (session_run k opening before).step event (exchanged k opening before)

-- what it has loaded last at a place
abbrev pub loaded_by : Ask Told → ℕ → ℕ → Option ℕ → Option ℕ
loaded_by (Load at) reply place before = if at == place then Some reply else before
loaded_by ask reply place before = before

abbrev pub loaded_last : List Exchange → ℕ → Option ℕ
loaded_last [] place = None
loaded_last (it ∷ before) place = loaded_by it.ask it.reply place (loaded_last before place)

-- it has stored nothing there
abbrev pub StoresElsewhere : ℕ → Ask Told → Type 0
StoresElsewhere place (Store at word) = at ≢ place
StoresElsewhere place ask = ⊤

abbrev pub HasStoredNone : ℕ → List Exchange → Type 0
HasStoredNone place [] = ⊤
HasStoredNone place (it ∷ before) = StoresElsewhere place it.ask × HasStoredNone place before

-- the phase and the version are those that the word says, and as they were where it says none
abbrev pub IsSaid : Seen → Seen → PhaseSaid → Type 0
IsSaid before after Spoiled = (after.phase ≡ before.phase) × (after.version ≡ before.version)
IsSaid before after (Says phase version) = (after.phase ≡ phase) × (after.version ≡ version)

abbrev pub IsTakenUp : Seen → Seen → Option ℕ → Type 0
IsTakenUp before after None = ⊥
IsTakenUp before after (Some word) = IsSaid before after (phase_said word)

abbrev pub epoch_place : Seat → ℕ
epoch_place k = session_place k.number own.Epoch

-- Where a session that refreshes stores its epoch word it has taken up the phase word that it loaded last; and it stores nothing behind it.
pub record IsEpochLast (k : Seat) (s : SessionState) (exchanges : List Exchange) : Type 0 where
  pub phase : (word : ℕ) → session_ask k s ≡ Store (epoch_place k) word → IsTakenUp s.seen (taken_up s) (loaded_last exchanges (shared_place one.Phase))
  pub last : (place word : ℕ) → session_ask k s ≡ Store place word → HasStoredNone (epoch_place k) exchanges
