-- What each reply changes of the requests that wait.
use Rattle.std.specs.Prelude.{◌≡◌, ℕ, if◌then◌else◌, Bool, true, Some, List, [], ◌∷◌, ◌++◌, slice_get, slice_set}
use Rattle.std.specs.List.{remove}
use Rattle.fkv_plane.specs.declared.asks.Ask.{Ask}
use Rattle.fkv_plane.specs.declared.asks.Ask.TheVariants.{Done}
use Rattle.fkv_ops.specs.declared.answers.TryAnswer.{TryAnswer}
use Rattle.fkv_pending.specs.declared.pending_requests.PendingRequest.{PendingRequest}
use Rattle.fkv_pending.specs.declared.pending_requests.RequestName.{RequestName}
use Rattle.fkv_pending.specs.Pending.{with_latch}
use Rattle.fkv_session.specs.declared.sessions.Sitting.{Sitting}
use Rattle.fkv_session.specs.declared.sessions.Sitting.TheVariants.{Attempts, CatchesUp, Polls}
use Rattle.fkv_session.specs.CatchingUp.{catch_requests}
use Rattle.fkv_session.specs.Sessions.{SessionState, Seat, is_finished}
use Rattle.law_local.specs.Sessions.Known.{is_accepted, attempt_after, attempt_comes_to}

-- the request of a call is appended where it is accepted
abbrev pub with_accepted : List PendingRequest → PendingRequest → Bool → Ask TryAnswer → List PendingRequest
with_accepted requests pending has_shifted (Done its) = if is_accepted has_shifted its then requests ++ pending ∷ [] else requests
with_accepted requests pending has_shifted ask = requests

-- a poll takes out the request that it finishes, and puts back the one that goes on waiting as its attempt has left it
abbrev pub with_polled : List PendingRequest → PendingRequest → ℕ → Ask TryAnswer → List PendingRequest
with_polled requests pending index (Done its) = if is_finished its then remove requests index else slice_set requests index pending
with_polled requests pending index ask = requests

-- the requests behind a reply: in catching up they take latches
abbrev pub requests_at : Seat → SessionState → Sitting → ℕ → List PendingRequest
requests_at k s (Attempts has_shifted) reply = with_accepted s.requests (attempt_after k s reply).pending has_shifted (attempt_comes_to k s reply)
requests_at k s (CatchesUp cause) reply = catch_requests s.catching s.requests reply
requests_at k s (Polls index) reply = with_polled s.requests (attempt_after k s reply).pending index (attempt_comes_to k s reply)
requests_at k s step reply = s.requests

abbrev pub requests_after : Seat → SessionState → ℕ → List PendingRequest
requests_after k s reply = requests_at k s s.step reply

-- the request at an index takes its latch
pub record HasLatched (before after : List PendingRequest) : Type 0 where
  pub index : ℕ
  pub pending : PendingRequest
  pub waits : slice_get before index ≡ Some pending
  pub so : after ≡ slice_set before index (with_latch pending true)

-- The requests that wait stay, or one comes in behind the others, one is set or goes where it waits, or one takes its latch.
pub data RequestsMove (before after : List PendingRequest) : Type 0 where
  Stay : after ≡ before → RequestsMove before after
  OneComes : (pending : PendingRequest) → after ≡ before ++ pending ∷ [] → RequestsMove before after
  OneIsSet : (index : ℕ) (pending : PendingRequest) → after ≡ slice_set before index pending → RequestsMove before after
  OneGoes : (index : ℕ) → after ≡ remove before index → RequestsMove before after
  OneLatches : HasLatched before after → RequestsMove before after

-- Of their names none changes: they stay, or the next one comes in behind the others, or one goes where it stands.
pub data NamesMove (next : RequestName) (before after : List RequestName) : Type 0 where
  NamesStay : after ≡ before → NamesMove next before after
  NextComes : after ≡ before ++ next ∷ [] → NamesMove next before after
  NameGoes : (index : ℕ) → after ≡ remove before index → NamesMove next before after
