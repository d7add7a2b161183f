-- Why a session refuses a call before it asks anything: what makes each fault true, and which of several is told.
use Rattle.std.specs.Prelude.{◌≡◌, ◌≢◌, ◌<◌, ⊤, ℕ, true, false, [], length}
use Rattle.fkv_base.specs.Limits.{max_pending, last_serial}
use Rattle.fkv_base.specs.declared.faults.Fault.{Fault}
use Rattle.fkv_base.specs.declared.faults.Fault.TheVariants as fault
use Rattle.fkv_map.specs.declared.operations.Call.{Call}
use Rattle.fkv_map.specs.declared.operations.Call.TheVariants as call
use Rattle.fkv_map.specs.Map.{IsReserved}
use Rattle.fkv_ops.specs.Requests.{is_read}
use Rattle.fkv_session.specs.Sessions.{SessionState}

-- only a wake, and the question what is durable, are calls for a session that sleeps
abbrev pub NeedsAwake : Call → Type 0
NeedsAwake call.Wake = ⊥
NeedsAwake call.Durable = ⊥
NeedsAwake its = ⊤

abbrev pub IsOperation : Call → Type 0
IsOperation (call.Op op) = ⊤
IsOperation its = ⊥

abbrev pub IsUpdate : Call → Type 0
IsUpdate (call.Op op) = is_read op ≡ false
IsUpdate its = ⊥

-- an operation that brings the word that stands for no value
abbrev pub BringsAbsent : Call → Type 0
BringsAbsent (call.Op op) = IsReserved op
BringsAbsent its = ⊥

-- What makes a fault true, of a session and a call. No other fault has a cause before the first ask.
abbrev pub HasCause : SessionState → Call → Fault → Type 0
HasCause s its fault.Asleep = NeedsAwake its × (s.is_awake ≡ false)
HasCause s its fault.ValueReserved = BringsAbsent its
HasCause s its fault.PendingFull = IsOperation its × (length s.requests ≡ max_pending)
HasCause s its fault.SerialsSpent = IsUpdate its × (s.serial ≡ last_serial)
HasCause s its fault.PendingLeft = (its ≡ call.Sleep) × (s.requests ≢ [])
HasCause s its fault.Awake = (its ≡ call.Wake) × (s.is_awake ≡ true)
HasCause s its why = ⊥

-- of several the one is told that comes first here
abbrev pub rank : Fault → ℕ
rank fault.Asleep = 0
rank fault.ValueReserved = 1
rank fault.PendingFull = 2
rank fault.SerialsSpent = 3
rank fault.PendingLeft = 4
rank why = 5

-- The fault has a cause, and none that comes before it has one.
pub record IsFirstCause (s : SessionState) (its : Call) (why : Fault) : Type 0 where
  pub its_cause : HasCause s its why
  pub first : (other : Fault) → rank other < rank why → HasCause s its other → ⊥
