-- The versions of the updates that a session has accepted or attempts.
use Rattle.std.specs.Prelude.{◌≡◌, ⊤, ℕ, false, List, [], ◌∷◌}
use Rattle.law_refine.specs.Below.fkv_ops.Requests.{is_read}
use Rattle.law_refine.specs.Below.fkv_pending.PendingRequest.{PendingRequest}
use Rattle.law_refine.specs.Below.fkv_session.Sitting.{Sitting}
use Rattle.law_refine.specs.Below.fkv_session.Sitting.TheVariants.{Attempts, Polls}
use Rattle.law_refine.specs.Below.fkv_session.Sessions.{SessionState}
use Rattle.law_commit.specs.Versions.Cells.{IsFromUpto}

-- if it is an update, it is of such a version
abbrev pub IsUpdateSo : (ℕ → Type 0) → PendingRequest → Type 0
IsUpdateSo P pending = is_read pending.request.op ≡ false → P pending.request.version.0

-- so is each request that waits
abbrev pub AreUpdatesSo : (ℕ → Type 0) → List PendingRequest → Type 0
AreUpdatesSo P [] = ⊤
AreUpdatesSo P (pending ∷ rest) = IsUpdateSo P pending × AreUpdatesSo P rest

-- and the one that a session attempts
abbrev pub AttemptsSo : (ℕ → Type 0) → SessionState → Sitting → Type 0
AttemptsSo P s (Attempts has_shifted) = IsUpdateSo P s.attempt.pending
AttemptsSo P s (Polls index) = IsUpdateSo P s.attempt.pending
AttemptsSo P s step = ⊤

-- what it attempts at a call is of its own version
abbrev pub AttemptsAtItsVersion : SessionState → Sitting → Type 0
AttemptsAtItsVersion s (Attempts has_shifted) = s.attempt.pending.request.version ≡ s.seen.version
AttemptsAtItsVersion s step = ⊤

-- A session's updates are of versions from this one up to its own. The one of a call in hand is of its own.
pub record RequestsFrom (low : ℕ) (s : SessionState) : Type 0 where
  pub waiting : AreUpdatesSo (IsFromUpto low s.seen.version.0) s.requests
  pub attempted : AttemptsSo (IsFromUpto low s.seen.version.0) s s.step
  pub in_hand : AttemptsAtItsVersion s s.step
