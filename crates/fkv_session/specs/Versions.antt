-- The versions at which a session accepts its updates, and of what request an attempt is.
use Rattle.std.specs.Prelude.{◌≡◌, ⊤, ℕ, ◌<◌, ◌≤◌, ◌⊎◌, ◌==◌, Bool, true, false, Option, Some, None, List, [], ◌∷◌, slice_get}
use Rattle.fkv_base.specs.Limits.{last_version}
use Rattle.fkv_map.specs.declared.operations.Op.{Op}
use Rattle.fkv_pending.specs.declared.pending_requests.PendingRequest.{PendingRequest}
use Rattle.fkv_pending.specs.declared.pending_requests.RequestName.{RequestName}
use Rattle.fkv_pending.specs.declared.pending_requests.RequestName.TheVariants.{Update, Read}
use Rattle.fkv_session.specs.Replies.{op_called}
use Rattle.fkv_session.specs.Sessions.{SessionState, Seat}
use Rattle.fkv_session.specs.SessionRun.{SessionEvent, session_run}

-- a serial that was taken, the operation of the call that took it, and the version that the session had then
pub record TakenAt : Type 0 where
  pub serial : ℕ
  pub op : Op
  pub version : ℕ

abbrev pub with_taken_at : ℕ → ℕ → Option Op → List TakenAt → List TakenAt
with_taken_at serial version None before = before
with_taken_at serial version (Some op) before = record { serial = serial; op = op; version = version } ∷ before

-- a serial is taken where the session's rises
abbrev pub taken_at_after : Bool → ℕ → ℕ → Option Op → List TakenAt → List TakenAt
taken_at_after true serial version op before = before
taken_at_after false serial version op before = with_taken_at serial version op before

abbrev pub taken_by : ℕ → SessionState → Option Op → List TakenAt → List TakenAt
taken_by serial after op before = taken_at_after (after.serial == serial) after.serial after.seen.version.0 op before

-- the serials that a run took, the newest first
unfoldable pub versions_taken : Seat → SessionState → List SessionEvent → List TakenAt
versions_taken k opening [] = []
versions_taken k opening (event ∷ before) = taken_by (session_run k opening before).serial (session_run k opening (event ∷ before)) (op_called k opening (event ∷ before)) (versions_taken k opening before)

abbrev pub IsVersion : ℕ → Type 0
IsVersion version = (0 < version) × (version ≤ last_version)

-- a request's version is the session's, which is one from 1 up to the last
abbrev pub IsVersionOf : ℕ → ℕ → Type 0
IsVersionOf session version = IsVersion session → version ≡ session

-- the serial was taken for this operation, at this version
abbrev pub WasTakenAt : List TakenAt → ℕ → Op → ℕ → Type 0
WasTakenAt [] serial op version = ⊥
WasTakenAt (it ∷ before) serial op version = ((it.serial ≡ serial) × ((it.op ≡ op) × IsVersionOf it.version version)) ⊎ WasTakenAt before serial op version

abbrev pub IsAsTaken : List TakenAt → RequestName → Op → ℕ → Type 0
IsAsTaken taken (Update serial) op version = WasTakenAt taken serial.0 op version
IsAsTaken taken (Read ticket) op version = ⊤

-- Each update that waits is of the operation for which its serial was taken, and of the version at which it was.
abbrev pub AreAsTaken : List TakenAt → List PendingRequest → Type 0
AreAsTaken taken [] = ⊤
AreAsTaken taken (p ∷ rest) = IsAsTaken taken p.name p.request.op p.request.version.0 × AreAsTaken taken rest

-- At a call it is the operation of the call that is attempted, at the session's version.
pub record IsAttemptOfCall (s : SessionState) (called : Option Op) (pending : PendingRequest) : Type 0 where
  pub op : called ≡ Some pending.request.op
  pub version : IsVersionOf s.seen.version.0 pending.request.version.0

-- In a poll it is the request that waits at an index, with its name, its operation and its version.
pub record IsAttemptOfRequest (requests : List PendingRequest) (index : ℕ) (pending : PendingRequest) : Type 0 where
  pub request : PendingRequest
  pub waits : slice_get requests index ≡ Some request
  pub name : pending.name ≡ request.name
  pub op : pending.request.op ≡ request.request.op
  pub version : pending.request.version ≡ request.request.version
