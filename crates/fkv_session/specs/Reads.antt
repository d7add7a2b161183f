-- The reads that a session answers, and what their attempts have come to.
use Rattle.std.specs.Prelude.{◌≡◌, ℕ, ◌+◌, if◌then◌else◌, Bool, Option, Some, None, List, [], ◌∷◌, ◌++◌, slice_get}
use Rattle.fkv_map.specs.declared.operations.Op.{Op}
use Rattle.fkv_base.specs.declared.numbers.Value.{Value}
use Rattle.fkv_plane.specs.declared.asks.Ask.{Ask}
use Rattle.fkv_plane.specs.declared.asks.Ask.TheVariants.{Done}
use Rattle.fkv_ops.specs.declared.answers.TryAnswer.{TryAnswer}
use Rattle.fkv_ops.specs.declared.answers.TryAnswer.TheVariants as tried
use Rattle.fkv_ops.specs.Requests.{is_read}
use Rattle.fkv_pending.specs.declared.pending_requests.PendingRequest.{PendingRequest}
use Rattle.fkv_pending.specs.declared.pending_requests.RequestName.{RequestName}
use Rattle.fkv_pending.specs.declared.pending_requests.RequestName.TheVariants.{Read}
use Rattle.fkv_pending.specs.declared.pending_requests.Ticket.{Ticket}
use Rattle.fkv_pending.specs.Attempting.{AttemptState, attempt_ask, attempt_next}
use Rattle.fkv_session.specs.declared.answers.Finished.{Finished}
use Rattle.fkv_session.specs.declared.answers.Finished.TheVariants as finished
use Rattle.fkv_session.specs.declared.answers.Told.{Told}
use Rattle.fkv_session.specs.declared.answers.Told.TheVariants as told
use Rattle.fkv_session.specs.declared.sessions.Sitting.{Sitting}
use Rattle.fkv_session.specs.declared.sessions.Sitting.TheVariants.{Attempts, Polls}
use Rattle.fkv_session.specs.Sessions.{SessionState, Seat, bits_of, room_of}
use Rattle.fkv_session.specs.SessionRun.{SessionEvent, Replies, session_run, Telling}
use Rattle.fkv_session.specs.Accounts.{number_of}

-- a read that is answered: by a poll with its ticket, or at its call; and the value that it found
pub record ReadAnswered : Type 0 where
  pub ticket : Option Ticket
  pub value : Option Value

-- What the attempt at a call has come to. No read's try ends as an update that is done; were it to, it would have found none.
abbrev pub with_called : Op → Ask TryAnswer → List ReadAnswered → List ReadAnswered
with_called op (Done (tried.Found value)) before = record { ticket = None; value = Some value } ∷ before
with_called op (Done tried.Absent) before = record { ticket = None; value = None } ∷ before
with_called op (Done (tried.Done its)) before = if is_read op then record { ticket = None; value = None } ∷ before else before
with_called op ask before = before

-- what a poll's attempt of a request of this name has come to
abbrev pub with_polled : RequestName → Ask TryAnswer → List ReadAnswered → List ReadAnswered
with_polled (Read ticket) (Done (tried.Found value)) before = record { ticket = Some ticket; value = Some value } ∷ before
with_polled (Read ticket) (Done tried.Absent) before = record { ticket = Some ticket; value = None } ∷ before
with_polled (Read ticket) (Done (tried.Done its)) before = record { ticket = Some ticket; value = None } ∷ before
with_polled name ask before = before

-- the attempt in hand, behind a reply
abbrev pub attempt_behind : Seat → SessionState → ℕ → AttemptState
attempt_behind k s reply = attempt_next k.places (bits_of k) (room_of k) k.number s.attempt reply

abbrev pub reads_replied : Seat → SessionState → Sitting → ℕ → List ReadAnswered → List ReadAnswered
reads_replied k s (Attempts has_shifted) reply before = with_called s.op (attempt_ask k.places k.number (attempt_behind k s reply)) before
reads_replied k s (Polls index) reply before = with_polled (attempt_behind k s reply).pending.name (attempt_ask k.places k.number (attempt_behind k s reply)) before
reads_replied k s step reply before = before

abbrev pub reads_behind : Seat → SessionState → SessionEvent → List ReadAnswered → List ReadAnswered
reads_behind k s (Replies reply) before = reads_replied k s s.step reply before
reads_behind k s event before = before

-- the reads whose attempts have come to an end, the newest first
unfoldable pub reads_ended : Seat → SessionState → List SessionEvent → List ReadAnswered
reads_ended k opening [] = []
reads_ended k opening (event ∷ before) = reads_behind k (session_run k opening before) event (reads_ended k opening before)

-- the reads that answers tell
abbrev pub with_read : Told → List ReadAnswered → List ReadAnswered
with_read (told.Found value) before = record { ticket = None; value = Some value } ∷ before
with_read told.Absent before = record { ticket = None; value = None } ∷ before
with_read its before = before

abbrev pub reads_by_poll : List Finished → List ReadAnswered
reads_by_poll [] = []
reads_by_poll (finished.Read ticket value ∷ rest) = record { ticket = Some ticket; value = value } ∷ reads_by_poll rest
reads_by_poll (finished.Update serial reply ∷ rest) = reads_by_poll rest

abbrev pub reads_told : List Telling → List ReadAnswered
reads_told [] = []
reads_told (it ∷ before) = with_read it.its (reads_by_poll it.finished ++ reads_told before)

-- Of whatever tickets and values one asks how many attempts of reads have come to them: so many answers tell a read with them.
abbrev pub AreReadsAnswered : List ReadAnswered → List Telling → List Finished → Type 0
AreReadsAnswered ended told in_hand = (such : ReadAnswered → Bool) → number_of such ended ≡ number_of such (reads_told told) + number_of such (reads_by_poll in_hand)

-- an attempt of a poll is of the request that waits at this place: of its name and its operation
pub record IsAttemptOf (requests : List PendingRequest) (index : ℕ) (attempted : PendingRequest) : Type 0 where
  pub its : PendingRequest
  pub at : slice_get requests index ≡ Some its
  pub name : attempted.name ≡ its.name
  pub op : attempted.request.op ≡ its.request.op
