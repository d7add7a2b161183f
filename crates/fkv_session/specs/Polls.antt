-- What a poll does with the requests that wait as it begins: each is attempted once, and is finished, or goes on waiting.
use Rattle.std.specs.Prelude.{◌≡◌, ℕ, if◌then◌else◌, List, [], ◌∷◌, ◌++◌, length}
use Rattle.fkv_plane.specs.declared.asks.Ask.{Ask}
use Rattle.fkv_plane.specs.declared.asks.Ask.TheVariants.{Done}
use Rattle.fkv_ops.specs.declared.answers.TryAnswer.{TryAnswer}
use Rattle.fkv_pending.specs.declared.pending_requests.PendingRequest.{PendingRequest}
use Rattle.fkv_pending.specs.declared.pending_requests.RequestName.{RequestName}
use Rattle.fkv_pending.specs.Attempting.{attempt_ask}
use Rattle.fkv_session.specs.declared.answers.Finished.{Finished}
use Rattle.fkv_session.specs.declared.sessions.Sitting.{Sitting}
use Rattle.fkv_session.specs.declared.sessions.Sitting.TheVariants.{Polls}
use Rattle.fkv_session.specs.Accounts.{name_finished, names_of}
use Rattle.fkv_session.specs.Sessions.{SessionState, Seat, is_busy, attempt_moved}
use Rattle.fkv_session.specs.SessionRun.{SessionEvent, Begins, Replies, session_run}

-- it goes on waiting with its name, its operation and its version
pub record IsSameRequest (before after : PendingRequest) : Type 0 where
  pub name : after.name ≡ before.name
  pub op : after.request.op ≡ before.request.op
  pub version : after.request.version ≡ before.request.version

-- Of what waited these are finished and the others go on waiting, each in the order of what waited.
pub data IsParted : List PendingRequest → List Finished → List PendingRequest → Type 0 where
  no_more : IsParted [] [] []
  is_finished : (p : PendingRequest) (it : Finished) (rest waiting : List PendingRequest) (finished : List Finished) → name_finished it ≡ p.name → IsParted rest finished waiting → IsParted (p ∷ rest) (it ∷ finished) waiting
  waits_on : (p q : PendingRequest) (rest waiting : List PendingRequest) (finished : List Finished) → IsSameRequest p q → IsParted rest finished waiting → IsParted (p ∷ rest) finished (q ∷ waiting)

-- the requests for which an attempt of a poll has ended since the call began, in their order
abbrev pub with_attempted : Ask TryAnswer → RequestName → List RequestName → List RequestName
with_attempted (Done its) name before = before ++ name ∷ []
with_attempted ask name before = before

abbrev pub attempted_at : Seat → SessionState → Sitting → ℕ → List RequestName → List RequestName
attempted_at k s (Polls index) reply before = with_attempted (attempt_ask k.places k.number (attempt_moved k s reply).attempt) s.attempt.pending.name before
attempted_at k s step reply before = before

abbrev pub attempted_by : Seat → SessionState → SessionEvent → List RequestName → List RequestName
attempted_by k s (Begins its) before = if is_busy s.step then before else []
attempted_by k s (Replies reply) before = attempted_at k s s.step reply before
attempted_by k s event before = before

unfoldable pub attempted_in_poll : Seat → SessionState → List SessionEvent → List RequestName
attempted_in_poll k opening [] = []
attempted_in_poll k opening (event ∷ before) = attempted_by k (session_run k opening before) event (attempted_in_poll k opening before)

-- A poll has attempted each request that waited as it began, in their order, and tells what it has finished of them and how many wait.
pub record IsPollOf (waited : List PendingRequest) (attempted : List RequestName) (finished : List Finished) (waiting : List PendingRequest) (left : ℕ) : Type 0 where
  pub each_attempted : attempted ≡ names_of waited
  pub parted : IsParted waited finished waiting
  pub counted : left ≡ length waiting
