-- What threads were told at a table: each session by its calls, and the keeper by its turns.
use Rattle.std.specs.Prelude.{◌≡◌, ◌⊎◌, ℕ, Bool, true, false, ◌||◌, List, [], ◌∷◌, ◌++◌, length, Option, Some, None, Result, Ok, Err, slice_index_or}
use Rattle.std.specs.List.{All}
use Rattle.atomic_table.specs.Seated.{TableId}
use Rattle.atomic_table.specs.Table.{Me}
use Rattle.fkv_base.specs.declared.commits.CommitKind.{CommitKind}
use Rattle.fkv_base.specs.declared.faults.Fault.{Fault}
use Rattle.fkv_base.specs.declared.faults.Fault.TheVariants.{Memory, PendingFull}
use Rattle.fkv_base.specs.declared.numbers.Serial.{Serial}
use Rattle.fkv_base.specs.declared.numbers.Version.{Version}
use Rattle.fkv_disk.specs.declared.devices.Device.{Ghosts}
use Rattle.fkv_keeper.specs.Keeping.{KeeperModel, keeper_ask}
use Rattle.fkv_keeper.specs.Running.{IsBeginTold}
use Rattle.fkv_keeper.specs.declared.answers.Finished.{Finished}
use Rattle.fkv_keeper.specs.declared.answers.Turn.{Turn}
use Rattle.fkv_lines.specs.declared.scripts.Line.{Line}
use Rattle.fkv_map.specs.declared.operations.Call.{Call}
use Rattle.fkv_map.specs.declared.operations.Call.TheVariants.{Refresh, Poll, Sleep}
use Rattle.fkv_map.specs.declared.operations.Op.{Op}
use Rattle.fkv_opening.specs.declared.opened_store.Opened.{Opened}
use Rattle.fkv_session.specs.declared.answers.Answer.{Answer}
use Rattle.fkv_session.specs.declared.answers.Answer.TheVariants.{Refused}
use Rattle.fkv_threads.specs.Below.fkv_table.Desks.{Slot, Knows}
use Rattle.fkv_threads.specs.Below.fkv_table.Happening.{Happening}
use Rattle.fkv_threads.specs.Below.fkv_table.Happening.TheVariants.{Commits, Turns}
use Rattle.fkv_threads.specs.Below.fkv_table.KeeperCalls.{HasKept}
use Rattle.fkv_threads.specs.Below.fkv_table.Keeps.{IsAfterSeen, IsKeeperReady}
use Rattle.fkv_threads.specs.Below.fkv_table.Starts.{EachAt}
use Rattle.fkv_threads.specs.Below.fkv_table.Turns.{IsCounted, told_by_device}
use Rattle.fkv_thread_scripts.specs.Calls.{calls_of}
use Rattle.fkv_thread_scripts.specs.Logs.{accepted_by, durable_by, told_by}
use Rattle.fkv_thread_scripts.specs.declared.logs.Log.{Log}
use Rattle.fkv_threads.specs.Begun.{IsOverStore}
use Rattle.fkv_threads.specs.Models.{Opening, Sitting, opening}
use Rattle.fkv_threads.specs.Runs.{run_of}
use Rattle.fkv_threads.specs.Below.fkv_world.Runs.{World}
use Rattle.fkv_threads.specs.Below.law_threads.Calls.{CallRun, HasRun}
use Rattle.fkv_threads.specs.Below.law_threads.Turns.{HasTurned}

-- ---- what a session's answers say
-- the updates that the answers of these calls accept, in order; the newest call stands first
abbrev pub accepted_in : List CallRun → List Op
accepted_in [] = []
accepted_in (its ∷ before) = accepted_in before ++ accepted_by its.call its.answer

-- the serials whose results they tell, in order
abbrev pub told_in : List CallRun → List Serial
told_in [] = []
told_in (its ∷ before) = told_in before ++ told_by its.answer

-- the last serial that they tell as durable; that from which the session goes on, if they tell none
abbrev pub durable_in : Serial → List CallRun → Serial
durable_in point [] = point
durable_in point (its ∷ before) = durable_by (durable_in point before) its.answer

-- a log has what the answers of these calls say, and nothing else
pub record IsLogOf (point : Serial) (log : Log) (runs : List CallRun) : Type 0 where
  pub first : log.first ≡ point.0
  pub accepted : log.accepted.items ≡ accepted_in runs
  pub told : log.told.items ≡ told_in runs
  pub durable : log.durable ≡ durable_in point runs

-- what a log has of one call more
pub record IsNoted (log log' : Log) (call : Call) (answer : Answer) : Type 0 where
  pub first : log'.first ≡ log.first
  pub accepted : log'.accepted.items ≡ log.accepted.items ++ accepted_by call answer
  pub told : log'.told.items ≡ log.told.items ++ told_by answer
  pub durable : log'.durable ≡ durable_by log.durable answer

-- ---- which calls a session makes
-- one that is none of its lines
abbrev pub is_own : Call → Bool
is_own Refresh = true
is_own Poll = true
is_own Sleep = true
is_own call = false

-- the answer where too many requests are pending
abbrev pub is_full : Answer → Bool
is_full (Refused PendingFull) = true
is_full answer = false

-- These are the calls of its lines so far, in order, each answered once. Between them stand its own, and tries for which too many requests were pending.
abbrev pub ArePlayed : List Call → List CallRun → Type 0
ArePlayed calls [] = calls ≡ []
ArePlayed calls (its ∷ before) =
    (((is_own its.call || is_full its.answer) ≡ true) × ArePlayed calls before)
    ⊎ ((earlier : List Call) × (calls ≡ earlier ++ its.call ∷ []) × (is_full its.answer ≡ false) × ArePlayed earlier before)

-- what a session has to do at a table: from which serial it goes on, and the calls of its lines
pub record Part (K : Type 0) : Type 0 where
  pub key : K
  pub number : ℕ
  pub point : Serial
  pub calls : List Call

-- the serial from which the session of a number goes on
abbrev pub point_at : List Serial → ℕ → Serial
point_at points number = slice_index_or points number (record { 0 = 0 })

-- the part of the session of a number, which goes on from a serial, in a script
abbrev pub part_of : {K : Type 0} → K → ℕ → Serial → List Line → Part K
part_of key number point lines = record { key = key; number = number; point = point; calls = calls_of number lines }

-- that which goes on from the store's point for it
abbrev pub part_at : {K : Type 0} → K → List Serial → List Line → ℕ → Part K
part_at key points lines number = part_of key number (point_at points number) lines

-- each session of a table, by its number
abbrev pub AreSeated : {K : Type 0} → K → List Serial → List Line → List (Part K) → Type 0
AreSeated key points lines parts = EachAt parts (λ number part. part ≡ part_at key points lines number)

-- ---- the keeper
-- a turn that was made, or a commit of a kind that was asked for, with the answer
pub data KeeperCall : Type 0 where
  Turned : Result Turn Fault → KeeperCall
  Asked : CommitKind → Result Version Fault → KeeperCall

-- A call of the keeper. `before` is what its pass had seen when it was called, and `behind` what it has seen behind the answer. `medium` is its device as it was called, and
-- `left` as the call has left it.
pub record KeeperRun (D : Type 0) : Type 0 where
  pub call : KeeperCall
  pub before : List Happening
  pub behind : List Happening
  pub medium : D
  pub left : D

-- The keeper as a contract sees it: the key of the table at which it sits, and the device with which it began.
pub record KeeperPlace (D : Type 0) : Type 0 where
  pub key : Opening D
  pub first : D

-- behind a turn with this answer: the commit that it tells as finished, or the one before
abbrev pub newer : Option Finished → Option Finished → Option Finished
newer (Some its) before = Some its
newer None before = before

abbrev pub finish_by : Option Finished → Result Turn Fault → Option Finished
finish_by before (Ok turn) = newer turn.finished before
finish_by before (Err fault) = before

-- the number that is told as begun, or the one before
abbrev pub begun_by : Option Version → Result Version Fault → Option Version
begun_by before (Ok number) = Some number
begun_by before (Err fault) = before

-- the fault for which a turn ends the run, or the one before; a refusal of memory doesn't end it
abbrev pub fault_by : Option Fault → Result Turn Fault → Option Fault
fault_by before (Ok turn) = before
fault_by before (Err Memory) = before
fault_by before (Err fault) = Some fault

-- a turn tells this commit as finished
abbrev pub TellsFinish : KeeperCall → Finished → Type 0
TellsFinish (Turned (Ok turn)) its = turn.finished ≡ Some its
TellsFinish call its = ⊥

-- a commit that was asked for is told as begun, with this number
abbrev pub TellsBegun : KeeperCall → Version → Type 0
TellsBegun (Asked kind (Ok number)) its = number ≡ its
TellsBegun call its = ⊥

-- a turn is refused for this fault, which ends the run: any but one of memory
abbrev pub TellsFault : KeeperCall → Fault → Type 0
TellsFault (Turned (Err Memory)) its = ⊥
TellsFault (Turned (Err fault)) its = fault ≡ its
TellsFault call its = ⊥

module _ {D X : Type 0} (Tells : KeeperCall → X → Type 0) where
  -- this call tells none
  abbrev pub TellsNone : KeeperRun D → Type 0
  TellsNone run = (its : X) → Tells run.call its → ⊥

  -- Of these calls, the newest first, one tells this, and no call behind it tells any. Or none of them does.
  abbrev pub IsLastTold : List (KeeperRun D) → Option X → Type 0
  IsLastTold runs (Some its) = (behind : List (KeeperRun D)) × (run : KeeperRun D) × (before : List (KeeperRun D)) × (runs ≡ behind ++ run ∷ before) × Tells run.call its × All TellsNone behind
  IsLastTold runs None = All TellsNone runs

module _ {K : Type 0} (at : K → World) where
  -- The calls that a session has made at a table, the newest first, where its pass has seen these events. Each call's list goes on from that of the one before,
  -- and the first began with nothing seen.
  abbrev pub AreCalls : K → ℕ → List CallRun → List Happening → Type 0
  AreCalls key number [] seen = seen ≡ []
  AreCalls key number (its ∷ before) seen = HasRun at key its × (its.number ≡ number) × (its.behind ≡ seen) × AreCalls key number before its.before

  -- A session has made one call more, and its answer is noted.
  pub record HasMade (seat seat' : Sitting K) (call : Call) (answer : Answer) (log log' : Log) : Type 0 where
    pub key : seat'.key ≡ seat.key
    pub number : seat'.number ≡ seat.number
    pub ran : HasRun at seat.key (run_of seat.number call answer seat.seen seat'.seen)
    pub noted : IsNoted log log' call answer

  -- A log has just what the session was told at the table, by all of its calls there. These calls of its lines are answered.
  pub record WasTold (part : Part K) (answered : List Call) (log : Log) (seen : List Happening) : Type 0 where
    pub runs : List CallRun
    pub called : AreCalls part.key part.number runs seen
    pub played : ArePlayed answered runs
    pub noted : IsLogOf part.point log runs

  -- So it is of a session that has ended. Its answered calls are the first of its lines, and all of them if it is said to be whole.
  pub record IsTold (part : Part K) (whole : Bool) (log : Log) : Type 0 where
    pub seen : List Happening
    pub answered : List Call
    pub left : List Call
    pub calls : part.calls ≡ answered ++ left
    pub all : whole ≡ true → left ≡ []
    pub told : WasTold part answered log seen

  -- The keeper was asked for a commit at a table, and its pass then has seen these: what `KeeperSeat::ask_commit` ensures.
  pub record HasAsked (key : K) (behind : List Happening) (answer : Result Version Fault) : Type 0 where
    pub table : TableId
    pub seat : TableId
    pub me : Me Slot (Knows K)
    pub machine : KeeperModel
    pub ready : IsKeeperReady at key table seat me machine
    pub seen : (let pass = me in pass.0.seen ≡ behind)
    pub told : (let k = machine in IsBeginTold (keeper_ask k.shape k.places k.state) answer)

  -- each log is what its session was told
  abbrev pub AreLogs : K → List Serial → List Line → Bool → List Log → Type 0
  AreLogs key points lines whole logs = EachAt logs (λ number log. IsTold (part_at key points lines number) whole log)

module _ {D : Type 0} (device : Ghosts D) where
  -- A turn with this answer has called its device, and has left it so. It tells `Device` only if the device has counted a failure in these calls, and it does if the device refuses one of them.
  abbrev pub IsCountedTurn : Result Turn Fault → D → D → Type 0
  IsCountedTurn answer medium left = (count : ℕ) × IsCounted count (told_by_device answer) (device.failed medium) (device.failed left) (device.refuses medium) (device.refuses left)

  -- A call of the keeper stands in the list, once, and is answered so. A turn has left its device so; to ask for a commit is no call of it.
  abbrev pub HasKeptCall : Opening D → KeeperCall → List Happening → List Happening → D → D → Type 0
  HasKeptCall key (Turned answer) before behind medium left = HasKept Turns before behind × HasTurned (opening device) key behind answer × IsCountedTurn answer medium left
  HasKeptCall key (Asked kind answer) before behind medium left = HasKept (Commits kind) before behind × HasAsked (opening device) key behind answer × (left ≡ medium)

  -- All calls that the keeper has made at the table, the newest first, where its pass has seen these events, and its device is so. Each call's list and device go on from those of the one
  -- before, and the first began with nothing seen and with the first device. So each turn that stands in the list is one of these.
  abbrev pub AreKept : Opening D → D → List (KeeperRun D) → List Happening → D → Type 0
  AreKept key first [] seen medium = (seen ≡ []) × (medium ≡ first)
  AreKept key first (its ∷ before) seen medium = HasKeptCall key its.call its.before its.behind its.medium its.left × (its.behind ≡ seen) × (its.left ≡ medium) × AreKept key first before its.before its.medium

  -- Of all its calls this is the last commit that a turn has told as finished, the last number that was told as begun, and the fault for which a turn has ended the run.
  pub record WasKept (key : Opening D) (first : D) (finished : Option Finished) (begun : Option Version) (fault : Option Fault) (seen : List Happening) (medium : D) : Type 0 where
    pub runs : List (KeeperRun D)
    pub kept : AreKept key first runs seen medium
    pub last : IsLastTold TellsFinish runs finished
    pub last_begun : IsLastTold TellsBegun runs begun
    pub refused : IsLastTold TellsFault runs fault

  -- The keeper's medium is honest and is as the calls leave it that the list of events gives. These are the last commit that a turn has told as finished, the last number
  -- that was told as begun, and the fault for which a turn has ended the run.
  pub record IsKept (key : Opening D) (first medium : D) (finished : Option Finished) (begun : Option Version) (fault : Option Fault) : Type 0 where
    pub seen : List Happening
    pub is_honest : device.honest medium
    pub behind : IsAfterSeen (opening device) key seen (device.seen medium) (device.may_leave medium)
    pub told : WasKept key first finished begun fault seen medium

  -- ---- a run
  -- What threads leave that have played lines at a table: a log of each session, which is what it was told from its point on, and the keeper's medium, which was this one
  -- at first, and what it was told.
  pub record WerePlayed (key : Opening D) (first : D) (points : List Serial) (lines : List Line) (sessions : ℕ) (whole : Bool) (logs : List Log) (medium : D) (finished : Option Finished) (begun : Option Version) (fault : Option Fault) : Type 0 where
    pub count : length logs ≡ sessions
    pub each : AreLogs (opening device) key points lines whole logs
    pub kept : IsKept key first medium finished begun fault

  -- So it is at the table of this store, which the medium held as it was opened.
  pub record IsPlayed (opened : Opened) (lines : List Line) (first : D) (whole : Bool) (logs : List Log) (medium : D) (finished : Option Finished) (begun : Option Version) (fault : Option Fault) : Type 0 where
    pub key : Opening D
    pub over : IsOverStore (opening device) key opened (device.seen first)
    pub played : WerePlayed key first opened.points.items lines opened.shape.sessions whole logs medium finished begun fault
