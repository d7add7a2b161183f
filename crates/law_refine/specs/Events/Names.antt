-- What a request is named by: a read waits for a ticket, and an update under its serial.
use Rattle.std.specs.Prelude.{◌≡◌, ⊤, Bool, true, false, List, [], ◌∷◌}
use Rattle.law_world.specs.Below.fkv_ops.Requests.{is_read}
use Rattle.law_world.specs.Below.fkv_pending.PendingRequest.{PendingRequest}
use Rattle.law_world.specs.Below.fkv_pending.RequestName.{RequestName}
use Rattle.law_world.specs.Below.fkv_pending.RequestName.TheVariants.{Update, Read}
use Rattle.law_world.specs.Below.fkv_session.Sitting.{Sitting}
use Rattle.law_world.specs.Below.fkv_session.Sitting.TheVariants.{Attempts, Polls}
use Rattle.law_world.specs.Below.fkv_session.Sessions.{SessionState}

abbrev pub is_read_name : RequestName → Bool
is_read_name (Update serial) = false
is_read_name (Read ticket) = true

-- it is named by its operation
abbrev pub IsNamedSo : PendingRequest → Type 0
IsNamedSo pending = is_read_name pending.name ≡ is_read pending.request.op

-- so is each request that waits
abbrev pub AreNamedSo : List PendingRequest → Type 0
AreNamedSo [] = ⊤
AreNamedSo (pending ∷ rest) = IsNamedSo pending × AreNamedSo rest

-- and the one that is attempted
abbrev pub AttemptsNamedSo : SessionState → Sitting → Type 0
AttemptsNamedSo s (Attempts has_shifted) = IsNamedSo s.attempt.pending
AttemptsNamedSo s (Polls index) = IsNamedSo s.attempt.pending
AttemptsNamedSo s step = ⊤

-- all requests of a session
pub record RequestsAreNamed (s : SessionState) : Type 0 where
  pub waiting : AreNamedSo s.requests
  pub attempted : AttemptsNamedSo s s.step
