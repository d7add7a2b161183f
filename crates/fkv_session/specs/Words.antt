-- The words by which a session tells where it has left a version: its two cut words, and how many updates it owes of that version.
use Rattle.std.specs.Prelude.{◌≡◌, ◌≢◌, ◌⊎◌, ℕ, ◌==◌, if◌then◌else◌, Bool, true, false, Option, Some, None, List, [], ◌∷◌}
use Rattle.fkv_plane.specs.declared.asks.Ask.{Ask}
use Rattle.fkv_plane.specs.declared.asks.Ask.TheVariants.{Store}
use Rattle.fkv_plane.specs.declared.places.SessionWord.TheVariants as own
use Rattle.fkv_plane.specs.Places.{session_place}
use Rattle.fkv_session.specs.declared.answers.Told.{Told}
use Rattle.fkv_session.specs.declared.sessions.CatchCause.{CatchCause}
use Rattle.fkv_session.specs.declared.sessions.Sitting.TheVariants.{CatchesUp, StoresOwing, StoresCut}
use Rattle.fkv_session.specs.CatchingUp.{version_before, cut_of, cut_at, owing}
use Rattle.fkv_session.specs.Cuts.{version_left}
use Rattle.fkv_session.specs.Sessions.{SessionState, Seat, session_ask}
use Rattle.fkv_session.specs.SessionRun.{SessionEvent, Replies, session_run}

-- one of these words of this session
abbrev pub IsMark : ℕ → ℕ → Type 0
IsMark number place = (place ≡ session_place number own.EvenCut) ⊎ ((place ≡ session_place number own.OddCut) ⊎ (place ≡ session_place number own.Owing))

-- When a session stores such a word, and what: where it takes up another version it tells at which serial the version before that one ends, and
-- how many of its requests are updates of that; a poll that has finished one of these tells how many are left; and a session that goes to
-- sleep tells at which serial its version ends.
pub data IsMarkStore (k : Seat) (s : SessionState) (place word : ℕ) : Type 0 where
  LeavesVersion : {cause : CatchCause} → s.step ≡ CatchesUp cause → s.catching.seen.version.0 ≢ s.seen.version.0 → place ≡ session_place k.number (cut_of (version_left s)) → word ≡ cut_at s.serial (version_left s) → IsMarkStore k s place word
  OwesUpdates : {cause : CatchCause} → s.step ≡ CatchesUp cause → s.catching.seen.version.0 ≢ s.seen.version.0 → place ≡ session_place k.number own.Owing → word ≡ owing s.catching.seen s.requests → IsMarkStore k s place word
  HasFinished : {index : ℕ} → s.step ≡ StoresOwing index → place ≡ session_place k.number own.Owing → word ≡ owing s.seen s.requests → IsMarkStore k s place word
  GoesToSleep : s.step ≡ StoresCut → place ≡ session_place k.number (cut_of s.seen.version.0) → word ≡ cut_at s.serial s.seen.version.0 → IsMarkStore k s place word

-- no other ask of the session stores one
abbrev pub AreMarkStores : Seat → SessionState → Type 0
AreMarkStores k s = (place word : ℕ) → session_ask k s ≡ Store place word → IsMark k.number place → IsMarkStore k s place word

-- what the session has stored last at a place, by the asks that were replied to; up to then what was there first
abbrev pub stored_by : Ask Told → ℕ → ℕ → ℕ
stored_by (Store at word) place before = if at == place then word else before
stored_by ask place before = before

abbrev pub stored_behind : Seat → SessionState → SessionEvent → ℕ → ℕ → ℕ
stored_behind k s (Replies reply) place before = stored_by (session_ask k s) place before
stored_behind k s event place before = before

unfoldable pub stored_last : Seat → SessionState → (ℕ → ℕ) → List SessionEvent → ℕ → ℕ
stored_last k opening first [] place = first place
stored_last k opening first (event ∷ before) place = stored_behind k (session_run k opening before) event place (stored_last k opening first before place)

-- the serial that the session had as its version changed last
abbrev pub left_with : Bool → ℕ → Option ℕ → Option ℕ
left_with true serial earlier = earlier
left_with false serial earlier = Some serial

abbrev pub left_by : SessionState → SessionState → Option ℕ → Option ℕ
left_by before after earlier = left_with (after.seen.version.0 == before.seen.version.0) before.serial earlier

unfoldable pub serial_left : Seat → SessionState → List SessionEvent → Option ℕ
serial_left k opening [] = None
serial_left k opening (event ∷ before) = left_by (session_run k opening before) (session_run k opening (event ∷ before)) (serial_left k opening before)

-- The cut word of the version before the session's tells the serial at which the session left it, and the owing word how many updates of it
-- wait.
pub record AreMarksTold (k : Seat) (s : SessionState) (words : ℕ → ℕ) (serial : ℕ) : Type 0 where
  pub cut : words (session_place k.number (cut_of (version_before s.seen).0)) ≡ cut_at serial (version_before s.seen).0
  pub owing : words (session_place k.number own.Owing) ≡ owing s.seen s.requests

-- the cut word of the session's own version tells its serial
abbrev pub IsCutAsleep : Seat → SessionState → (ℕ → ℕ) → Type 0
IsCutAsleep k s words = words (session_place k.number (cut_of s.seen.version.0)) ≡ cut_at s.serial s.seen.version.0
