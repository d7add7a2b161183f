-- How the points are shown by the cut words that were met.
use Rattle.std.specs.Prelude.{◌≡◌, ◌≢◌, ℕ, ◌+◌, ◌%◌, ◌<◌, max, ◌⊎◌, List, [], ◌∷◌, ◌++◌, length}
use Rattle.fkv_base.specs.Limits.{drain_slots}
use Rattle.fkv_base.specs.declared.numbers.Addr.{Addr}
use Rattle.fkv_base.specs.declared.numbers.Serial.{Serial}
use Rattle.fkv_base.specs.declared.numbers.Version.{Version}
use Rattle.fkv_base.specs.declared.phases.Phase.TheVariants.{WaitFlush}
use Rattle.fkv_marks.specs.Marks.{mark}
use Rattle.fkv_plane.specs.declared.actions.Action.TheVariants.{SafeReadOnly}
use Rattle.fkv_plane.specs.declared.asks.Ask.TheVariants.{Load, Store, Max}
use Rattle.fkv_plane.specs.declared.places.SharedWord.TheVariants as one
use Rattle.fkv_plane.specs.declared.places.SessionWord.TheVariants as own
use Rattle.fkv_plane.specs.Places.{shared_place, session_place}
use Rattle.fkv_epoch.specs.Claiming.{phase_stored}
use Rattle.fkv_epoch.specs.Once.{Among}
use Rattle.fkv_words.specs.declared.cut_word.CutWord.{CutWord}
use Rattle.fkv_words.specs.Layout.{cut_word}
use Rattle.fkv_commit.specs.Commits.{version_after}
use Rattle.fkv_commit.specs.Cuts.{serial_said, version_said, cut_of, other_cut_of}
use Rattle.fkv_commit.specs.Exchanges.{Exchange, exchange, run_of, exchanges, AreIdle, WereTaken, WasEpochLast, HoldsSlot, IsDeferred}
use Rattle.fkv_commit.specs.Seeking.{SeekState, floor_of, seek_begun, seek_ask, seek_next}
use Rattle.fkv_commit.specs.declared.seeking.Seeking.TheVariants.{Ended}
use Rattle.fkv_commit.specs.declared.seeking.SeekAnswer.{SeekAnswer}
use Rattle.fkv_commit.specs.declared.seeking.SeekAnswer.TheVariants as answer

-- the cut words of a session, as they were met: the one of the version that is committed; then the other one; then the first again
pub data CutsMet : Type 0 where
  First : ℕ → CutsMet
  Both : ℕ → ℕ → CutsMet
  Again : ℕ → ℕ → ℕ → CutsMet

-- The rule. The first word says where its version ends, and is believed where that is the version committed. A session that has slept
-- through it has two older words, and came as far as the greater serial says. One whose other word is of the next version has gone on in
-- between, and its first word says the point by now. The floor is the point where it is greater. Words say the marks of versions.
abbrev pub IsPointShown : ℕ → ℕ → CutsMet → ℕ → Type 0
IsPointShown floor v (First first) point = (version_said first ≡ mark v) × (point ≡ max floor (serial_said first))
IsPointShown floor v (Both first other) point = (version_said first ≢ mark v) × (version_said other ≢ mark (v + 1)) × (point ≡ max floor (max (serial_said first) (serial_said other)))
IsPointShown floor v (Again first other again) point = (version_said first ≢ mark v) × (version_said other ≡ mark (v + 1)) × (point ≡ max floor (serial_said again))

-- each session's point is shown by its floor and its words; those of the last session stand first
abbrev pub ArePointsShown : List Serial → ℕ → List CutsMet → List Serial → Type 0
ArePointsShown floor v [] points = points ≡ []
ArePointsShown floor v (its ∷ before) points =
    (earlier : List Serial) × (point : Serial) × (points ≡ earlier ++ point ∷ []) × IsPointShown (floor_of floor (length earlier)) v its point.0 × ArePointsShown floor v before earlier

-- the loads in which the words of a session were met
abbrev pub first_met : ℕ → ℕ → ℕ → Exchange
first_met v session word = exchange (Load (session_place session (cut_of v))) word

abbrev pub other_met : ℕ → ℕ → ℕ → Exchange
other_met v session word = exchange (Load (session_place session (other_cut_of v))) word

abbrev pub loads_of : ℕ → ℕ → CutsMet → List Exchange → List Exchange
loads_of v session (First first) before = first_met v session first ∷ before
loads_of v session (Both first other) before = other_met v session other ∷ first_met v session first ∷ before
loads_of v session (Again first other again) before = first_met v session again ∷ other_met v session other ∷ first_met v session first ∷ before

-- session by session, behind what was told before
abbrev pub all_loads : ℕ → List CutsMet → List Exchange → List Exchange
all_loads v [] before = before
all_loads v (its ∷ earlier) before = loads_of v (length earlier) its (all_loads v earlier before)

-- each owing word was loaded and was 0
abbrev pub NoneOwes : ℕ → List Exchange → Type 0
NoneOwes sessions told = (session : ℕ) → session < sessions → Among (exchange (Load (session_place session own.Owing)) 0) told

-- The points so far are shown by their floors and by the cut words that were loaded behind all owing words, and with a drain slot held. What was told since is
-- loads alone, as long as a point is missing.
pub record ArePointsTaken (floor : List Serial) (v sessions : ℕ) (points : List Serial) (told : List Exchange) : Type 0 where
  pub met : List CutsMet
  pub shown : ArePointsShown floor v met points
  pub slot : ℕ
  pub before : List Exchange
  pub held : HoldsSlot slot before
  pub none_owes : NoneOwes sessions before
  pub since : List Exchange
  pub its : told ≡ since ++ all_loads v met before
  pub first : AreIdle since ⊎ (length points ≡ sessions)

-- no point is taken yet and nothing is changed, or the points are shown
abbrev pub ArePointsRight : List Serial → ℕ → ℕ → List Serial → List Exchange → Type 0
ArePointsRight floor v sessions points told = ((points ≡ []) × AreIdle told) ⊎ ArePointsTaken floor v sessions points told

-- All points are taken, and behind them: wait-flush is stored, the tail is loaded, the read-only offset is raised to it, and that the safe
-- read-only offset follows is deferred.
pub record AllAreTaken (floor : List Serial) (number : Version) (sessions : ℕ) (points : List Serial) (end : Addr) (epoch : ℕ) (told : List Exchange) : Type 0 where
  pub met : List CutsMet
  pub shown : ArePointsShown floor number.0 met points
  pub all : length points ≡ sessions
  pub slot : ℕ
  pub before : List Exchange
  pub held : HoldsSlot slot before
  pub none_owes : NoneOwes sessions before
  pub store_reply : ℕ
  pub max_reply : ℕ
  pub deferred : IsDeferred slot epoch (SafeReadOnly end)
      (exchange (Max (shared_place one.ReadOnly) end.0) max_reply ∷ exchange (Load (shared_place one.Tail)) end.0
      ∷ exchange (Store (shared_place one.Phase) (phase_stored WaitFlush (version_after number))) store_reply ∷ all_loads number.0 met before) told

-- one owing word was loaded and was not 0
abbrev pub SomeOwes : ℕ → List Exchange → Type 0
SomeOwes sessions told = (session : ℕ) × (session < sessions) × ((word : ℕ) × (word ≢ 0) × Among (exchange (Load (session_place session own.Owing)) word) told)

-- what an ended search has told: where no points are taken nothing is changed, and its reason was met
abbrev pub IsSeekEnd : List Serial → Version → ℕ → List Serial → SeekAnswer → List Exchange → Type 0
IsSeekEnd floor number sessions points (answer.Taken end epoch) told = AllAreTaken floor number sessions points end epoch told
IsSeekEnd floor number sessions points answer.Idle told = ⊥
IsSeekEnd floor number sessions points answer.Owing told = (points ≡ []) × AreIdle told × SomeOwes sessions told
IsSeekEnd floor number sessions points answer.DrainFull told = (points ≡ []) × AreIdle told × WereTaken drain_slots told
IsSeekEnd floor number sessions points answer.EpochsSpent told = (points ≡ []) × AreIdle told × WasEpochLast told

abbrev pub sought : SeekState → Version → List Serial → List ℕ → SeekState
sought opening number floor replies = run_of seek_next (seek_begun opening number floor) replies

abbrev pub seek_told : SeekState → Version → List Serial → List ℕ → List Exchange
seek_told opening number floor replies = exchanges seek_ask seek_next (seek_begun opening number floor) replies

-- at each moment the points are right
abbrev pub PointsAreRight : Type 0
PointsAreRight =
    (opening : SeekState) (number : Version) (floor : List Serial) (replies : List ℕ) → ArePointsRight floor number.0 opening.sessions (sought opening number floor replies).points (seek_told opening number floor replies)

-- and so is the end
abbrev pub SeeksEndRight : Type 0
SeeksEndRight =
    (opening : SeekState) (number : Version) (floor : List Serial) (replies : List ℕ) (its : SeekAnswer) → (sought opening number floor replies).step ≡ Ended its
    → IsSeekEnd floor number opening.sessions (sought opening number floor replies).points its (seek_told opening number floor replies)

-- what a cut word says is what was packed into it, and a word that no cut has says nothing
abbrev pub CutsAreRead : Type 0
CutsAreRead = (its : CutWord) → (serial_said (cut_word its) ≡ its.serial.0) × (version_said (cut_word its) ≡ its.version.0)

abbrev pub OthersSayNothing : Type 0
OthersSayNothing = (word : ℕ) → ((its : CutWord) → cut_word its ≢ word) → (serial_said word ≡ 0) × (version_said word ≡ 0)

-- the first word met of a session is that of its even versions where the commit's number is even, and that of its odd ones where it is odd;
-- the other word is the contrary
abbrev pub CutsAreByParity : Type 0
CutsAreByParity = (number session word : ℕ)
    → (number % 2 ≡ 0
    → (first_met number session word ≡ exchange (Load (session_place session own.EvenCut)) word)
    × (other_met number session word ≡ exchange (Load (session_place session own.OddCut)) word))
    × (number % 2 ≡ 1
    → (first_met number session word ≡ exchange (Load (session_place session own.OddCut)) word)
    × (other_met number session word ≡ exchange (Load (session_place session own.EvenCut)) word))
