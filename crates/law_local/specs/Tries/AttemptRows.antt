-- What a request that waits knows of the log, and an attempt for it, by its control state.
use Rattle.std.specs.Prelude.{◌≡◌, ◌⊎◌, ℕ, ⊤, true, false, Option, Some, None}
use Rattle.std.specs.Option.{is_some}
use Rattle.fkv_plane.specs.declared.places.Places.{Places}
use Rattle.fkv_index.specs.Slots.{entry_addr}
use Rattle.law_log.specs.Chains.{value_at}
use Rattle.law_log.specs.Ghosts.{Log}
use Rattle.fkv_ops.specs.declared.answers.DiskRecord.{DiskRecord}
use Rattle.fkv_ops.specs.declared.answers.Reason.TheVariants.{Disk}
use Rattle.fkv_ops.specs.declared.answers.TryAnswer.{TryAnswer}
use Rattle.fkv_ops.specs.declared.answers.TryAnswer.TheVariants as answer
use Rattle.fkv_ops.specs.declared.requests.Request.{Request}
use Rattle.fkv_ops.specs.declared.requests.Occasion.{Occasion}
use Rattle.fkv_ops.specs.declared.requests.Seen.{Seen}
use Rattle.fkv_ops.specs.Requests.{is_read}
use Rattle.fkv_ops.specs.Trying.{TryState}
use Rattle.fkv_pending.specs.declared.attempting.Attempting.{Attempting}
use Rattle.fkv_pending.specs.declared.attempting.Attempting.TheVariants.{Ended, Looks, Tries, Puts}
use Rattle.fkv_pending.specs.declared.pending_requests.PendingRequest.{PendingRequest}
use Rattle.fkv_pending.specs.Attempting.{AttemptState, is_poll}
use Rattle.law_local.specs.Tries.HeldRows.{SoughtKnows}
use Rattle.law_local.specs.Tries.Kept.{KeepsForTry}
use Rattle.law_local.specs.Tries.MailRows.{MailKnows, IsTrueOfLook, PutsSought}
use Rattle.law_local.specs.Tries.Replies.{IsTrueReply}
use Rattle.law_local.specs.Tries.TryRows.{key_in, head_in, floor_in, first_of, RequestKnows, TryKnows}
use Rattle.law_local.specs.Tries.WalkRows.{begin_of}

-- A request that waits knows what a request does, and where the record lies that it seeks. A read holds no latch.
pub record PendingKnows (home : ℕ → ℕ) (log : Log) (pending : PendingRequest) (seen : Seen) : Type 0 where
  pub request : RequestKnows home log pending.request seen
  pub sought : SoughtKnows home log (floor_in pending.request) (key_in pending.request) (head_in seen) pending.sought
  pub unlatched : is_read pending.request.op ≡ true → pending.request.has_latch ≡ false

-- a read that has asked waits for the mailbox: it is a poll's, and seeks a record
abbrev pub AsksAtPoll : PendingRequest → Occasion → Type 0
AsksAtPoll pending occasion = is_read pending.request.op ≡ true → pending.has_asked ≡ true → (is_poll occasion ≡ true) × (is_some pending.sought ≡ true)

-- the try is for the request that waits
pub record TriesFor (home : ℕ → ℕ) (log : Log) (pending : PendingRequest) (seen : Seen) (trial : TryState) : Type 0 where
  pub knows : TryKnows home log trial
  pub its_request : trial.request ≡ pending.request
  pub its_seen : trial.seen ≡ seen
  pub not_asked : is_read pending.request.op ≡ true → pending.has_asked ≡ false

abbrev pub AttemptRow : (ℕ → ℕ) → Log → AttemptState → Attempting → Type 0
AttemptRow home log a (Ended its) = ⊤
AttemptRow home log a Looks = (a.pending.has_asked ≡ true) × AsksAtPoll a.pending a.occasion × MailKnows log (floor_in a.pending.request) a.pending.sought a.mailing
AttemptRow home log a Tries = TriesFor home log a.pending a.seen a.trial
AttemptRow home log a Puts = PutsSought a.pending.sought a.mailing

pub record AttemptKnows (home : ℕ → ℕ) (log : Log) (a : AttemptState) : Type 0 where
  pub pending : PendingKnows home log a.pending a.seen
  pub row : AttemptRow home log a a.step

-- ---- replies, and what others have to leave
abbrev pub IsTrueOfAttempt : (ℕ → ℕ) → Log → Places → AttemptState → Attempting → ℕ → Type 0
IsTrueOfAttempt home log p a Looks reply = IsTrueOfLook log (floor_in a.pending.request) a.pending.sought a.mailing reply
IsTrueOfAttempt home log p a Tries reply = IsTrueReply home log p a.trial a.trial.step reply
IsTrueOfAttempt home log p a step reply = ⊤

abbrev pub KeepsForAttempt : (ℕ → ℕ) → Log → Log → AttemptState → Attempting → Type 0
KeepsForAttempt home log after a Tries = KeepsForTry home log after a.trial a.trial.step
KeepsForAttempt home log after a step = ⊤

-- ---- what an attempt of a read tells
-- where the way to a record that is sought goes down from
abbrev pub start_of : Option DiskRecord → ℕ
start_of None = 0
start_of (Some it) = entry_addr it.entry

-- where the read goes down from behind a step of this state: from where its try's walk does, or from the entry of the record that it seeks
abbrev pub read_start : Attempting → Option DiskRecord → TryState → ℕ
read_start Tries sought after = begin_of after.walk
read_start step sought after = start_of sought

-- The value of the first record of its key from there, or none; and where it waits for the device it seeks a record on the way from there, or nothing where that is
-- gone: then it goes down from its entry again.
abbrev pub ReadEnds : (ℕ → ℕ) → Log → Request → ℕ → Option DiskRecord → TryAnswer → Type 0
ReadEnds home log request from sought (answer.Found value) = value_at (log.cells (first_of home log request from)) ≡ Some value.0
ReadEnds home log request from sought answer.Absent = value_at (log.cells (first_of home log request from)) ≡ None
ReadEnds home log request from sought (answer.Wait Disk) = (sought ≡ None) ⊎ (start_of sought ≡ from)
ReadEnds home log request from sought its = ⊤

-- by the state behind the step
abbrev pub ReadGoesTo : (ℕ → ℕ) → Log → Request → ℕ → Option DiskRecord → Attempting → Type 0
ReadGoesTo home log request from sought (Ended its) = ReadEnds home log request from sought its
ReadGoesTo home log request from sought Puts = start_of sought ≡ from
ReadGoesTo home log request from sought step = ⊤

abbrev pub AttemptTells : (ℕ → ℕ) → Log → AttemptState → AttemptState → Type 0
AttemptTells home log a after = ReadGoesTo home log a.pending.request (read_start a.step a.pending.sought after.trial) after.pending.sought after.step
