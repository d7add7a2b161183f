-- How far a read has come in the log, by the control state of its attempt.
use Rattle.std.specs.Prelude.{◌≡◌, ℕ, ◌⊎◌, ⊤, Bool, true, false, if◌then◌else◌, Option, Some, None, List}
use Rattle.fkv_plane.specs.declared.asks.Ask.{Ask}
use Rattle.fkv_plane.specs.declared.asks.Ask.TheVariants.{Done}
use Rattle.fkv_plane.specs.declared.places.Places.{Places}
use Rattle.fkv_index.specs.declared.finding.Found.{Found}
use Rattle.fkv_index.specs.declared.finding.Found.TheVariants.{Slot, NoSlot}
use Rattle.fkv_index.specs.declared.finding.FindAnswer.{FindAnswer}
use Rattle.fkv_index.specs.Slots.{entry_addr}
use Rattle.fkv_index.specs.Finding.{find_next_ask}
use Rattle.law_log.specs.Trace.{Effect}
use Rattle.law_log.specs.Ghosts.{Log, Reading, Called, Walks, HasValue, found, took}
use Rattle.fkv_ops.specs.declared.answers.DiskRecord.{DiskRecord}
use Rattle.fkv_ops.specs.declared.answers.TryAnswer.{TryAnswer}
use Rattle.fkv_ops.specs.declared.answers.TryAnswer.TheVariants as answer
use Rattle.fkv_ops.specs.declared.trying.Trying.{Trying}
use Rattle.fkv_ops.specs.declared.trying.Trying.TheVariants as try
use Rattle.fkv_ops.specs.declared.walking.Walking.{Walking}
use Rattle.fkv_ops.specs.declared.walking.Walking.TheVariants.{Ended, Finds}
use Rattle.fkv_ops.specs.Trying.{TryState, has_walked}
use Rattle.fkv_ops.specs.Walking.{WalkState}
use Rattle.fkv_pending.specs.declared.attempting.Attempting.{Attempting}
use Rattle.fkv_pending.specs.declared.attempting.Attempting.TheVariants as attempt
use Rattle.fkv_pending.specs.Attempting.{AttemptState, attempt_ask, attempt_next}
use Rattle.law_local.specs.Tries.WalkRows.{begin_of}

-- the read goes down its chain from this address
abbrev pub GoesFrom : Reading → ℕ → ℕ → Type 0
GoesFrom reading key from = (seen : List Effect) × (reading ≡ Walks key seen from)

-- it has been called, and may look again where its chain begins
abbrev pub IsCalledFor : Reading → ℕ → Type 0
IsCalledFor reading key = ((seen : List Effect) × (reading ≡ Called key seen)) ⊎ ((from : ℕ) × GoesFrom reading key from)

-- it has this value
abbrev pub HasRead : Reading → ℕ → Option ℕ → Type 0
HasRead reading key value = (seen : List Effect) × (reading ≡ HasValue key seen value)

-- ---- by the control state
-- behind its search it goes down from the entry that was found
abbrev pub EndReads : ℕ → Reading → ℕ → Bool → Type 0
EndReads key reading from true = GoesFrom reading key from
EndReads key reading from false = IsCalledFor reading key

abbrev pub WalkReads : ℕ → Reading → WalkState → Walking → Type 0
WalkReads key reading w Finds = IsCalledFor reading key
WalkReads key reading w (Ended its) = EndReads key reading (begin_of w) (has_walked its)
WalkReads key reading w step = GoesFrom reading key (begin_of w)

abbrev pub TryReads : ℕ → Reading → TryState → Trying → Type 0
TryReads key reading t try.Walks = WalkReads key reading t.walk t.walk.step
TryReads key reading t try.LoadsAnswer = GoesFrom reading key (begin_of t.walk)
TryReads key reading t step = ⊤

-- while it waits it goes down from the entry of the record that it seeks, or is to be tried again
abbrev pub SoughtReads : ℕ → Reading → Option DiskRecord → Type 0
SoughtReads key reading None = IsCalledFor reading key
SoughtReads key reading (Some it) = GoesFrom reading key (entry_addr it.entry)

abbrev pub AnsweredReads : ℕ → Reading → Option DiskRecord → TryAnswer → Type 0
AnsweredReads key reading sought (answer.Found value) = HasRead reading key (Some value.0)
AnsweredReads key reading sought answer.Absent = HasRead reading key None
AnsweredReads key reading sought its = SoughtReads key reading sought

abbrev pub AttemptReads : ℕ → Reading → AttemptState → Attempting → Type 0
AttemptReads key reading a (attempt.Ended its) = AnsweredReads key reading a.pending.sought its
AttemptReads key reading a attempt.Tries = (a.pending.sought ≡ None) × TryReads key reading a.trial a.trial.step
AttemptReads key reading a step = SoughtReads key reading a.pending.sought

-- ---- what a step of the attempt is to the read
-- the search of its walk has found where its chain begins
abbrev pub finds_start : Found → Bool
finds_start (Slot place word) = true
finds_start NoSlot = true
finds_start its = false

abbrev pub search_starts : Ask FindAnswer → Bool
search_starts (Done its) = finds_start its.found
search_starts ask = false

abbrev pub walk_starts : Places → WalkState → Walking → ℕ → Bool
walk_starts p w Finds reply = search_starts (find_next_ask p w.finding reply)
walk_starts p w step reply = false

abbrev pub try_starts : Places → TryState → Trying → ℕ → Bool
try_starts p t try.Walks reply = walk_starts p t.walk t.walk.step reply
try_starts p t step reply = false

abbrev pub attempt_starts : Places → AttemptState → Attempting → ℕ → Bool
attempt_starts p a attempt.Tries reply = try_starts p a.trial a.trial.step reply
attempt_starts p a step reply = false

-- it tells a value, or that there is none
abbrev pub tells_value : Ask TryAnswer → Bool
tells_value (Done (answer.Found value)) = true
tells_value (Done answer.Absent) = true
tells_value ask = false

abbrev pub started : (ℕ → ℕ) → Log → Reading → Bool → Reading
started home log reading starts = if starts then found home log reading else reading

abbrev pub valued : (ℕ → ℕ) → Log → Reading → Bool → Reading
valued home log reading tells = if tells then took home log reading else reading

-- how far the read has come then
abbrev pub reading_after : (ℕ → ℕ) → Log → Places → ℕ → ℕ → ℕ → AttemptState → ℕ → Reading → Reading
reading_after home log p bits room session a reply reading = valued home log (started home log reading (attempt_starts p a a.step reply)) (tells_value (attempt_ask p session (attempt_next p bits room session a reply)))
