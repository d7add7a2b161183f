-- When a session sleeps, and what it is at then.
use Rattle.std.specs.Prelude.{◌≡◌, ⊤, Bool, true, false, List, [], ◌∷◌}
use Rattle.fkv_base.specs.declared.faults.Fault.TheVariants.{Asleep}
use Rattle.fkv_pending.specs.declared.pending_requests.PendingRequest.{PendingRequest}
use Rattle.fkv_session.specs.declared.answers.Told.{Told}
use Rattle.fkv_session.specs.declared.answers.Told.TheVariants as told
use Rattle.fkv_session.specs.declared.sessions.CatchCause.TheVariants.{Wakes}
use Rattle.fkv_session.specs.declared.sessions.Sitting.{Sitting}
use Rattle.fkv_session.specs.declared.sessions.Sitting.TheVariants.{Idle, CatchesUp, LoadsDurable}
use Rattle.fkv_session.specs.SessionRun.{Telling}

-- it tells that it sleeps, what of it is durable, or that it refuses a call since it sleeps
abbrev pub IsToldAsleep : Told → Type 0
IsToldAsleep told.Slept = ⊤
IsToldAsleep (told.Durable serial) = ⊤
IsToldAsleep (told.Refused why) = why ≡ Asleep
IsToldAsleep its = ⊥

-- it is at rest, loads its durable word, or wakes
abbrev pub IsStepAsleep : Sitting → Type 0
IsStepAsleep (Idle its) = IsToldAsleep its
IsStepAsleep LoadsDurable = ⊤
IsStepAsleep (CatchesUp Wakes) = ⊤
IsStepAsleep step = ⊥

-- Nothing waits, and no call is accepted but one that wakes it, or asks what of it is durable.
pub record IsAsleep (requests : List PendingRequest) (step : Sitting) : Type 0 where
  pub none_wait : requests ≡ []
  pub accepts_none : IsStepAsleep step

-- whether it is awake by its answers, the newest first: from one that it sleeps to the next one that it has woken it isn't
abbrev pub is_awake_after : Told → Bool → Bool
is_awake_after told.Slept before = false
is_awake_after (told.Woken phase version) before = true
is_awake_after its before = before

abbrev pub is_awake_told : List Telling → Bool
is_awake_told [] = true
is_awake_told (it ∷ before) = is_awake_after it.its (is_awake_told before)
