-- What the laws say of requests that wait and of attempts.
use Rattle.std.specs.Prelude.{◌≡◌, ◌≤◌, ℕ, Bool, true, false, None, List}
use Rattle.fkv_plane.specs.declared.places.Places.{Places}
use Rattle.fkv_plane.specs.Asked.{reply_to}
use Rattle.fkv_plane.specs.Passing.{is_done}
use Rattle.law_log.specs.Begins.{Live}
use Rattle.law_log.specs.Ghosts.{Log, Reading}
use Rattle.fkv_ops.specs.declared.requests.Occasion.{Occasion}
use Rattle.fkv_ops.specs.declared.requests.Seen.{Seen}
use Rattle.fkv_ops.specs.Requests.{is_read}
use Rattle.fkv_ops.specs.Trying.{TryState, try_ask}
use Rattle.fkv_pending.specs.declared.attempting.Attempting.TheVariants.{Tries}
use Rattle.fkv_pending.specs.declared.pending_requests.PendingRequest.{PendingRequest}
use Rattle.fkv_pending.specs.Attempting.{AttemptState, is_poll, attempt_begun, attempt_ask, attempt_next}
use Rattle.law_local.specs.Tries.Kept.{OlderAreFixed, ChangesLog}
use Rattle.law_local.specs.Tries.Laws.{StaysWhere, Stays}
use Rattle.law_local.specs.Tries.OnWay.{IsOrderly}
use Rattle.law_local.specs.Tries.ReadRows.{SoughtReads, AttemptReads, reading_after}
use Rattle.law_local.specs.Tries.Replies.{IsTrueReply}
use Rattle.law_local.specs.Tries.TryRows.{floor_in, key_in, head_in, MarksTell, NoneLaterPast, TryKnows}
use Rattle.law_local.specs.Tries.WordsShow.{WordsShow, TrySearches, AttemptMeets}
use Rattle.law_local.specs.Tries.AttemptRows.{PendingKnows, AsksAtPoll, AttemptKnows, IsTrueOfAttempt, KeepsForAttempt, AttemptTells}

-- ---- requests that wait
abbrev pub PendingRowsStay : Type 0
PendingRowsStay = (pending : PendingRequest) (seen : Seen) → Stays (λ home log. PendingKnows home log pending seen)

-- what one knows it knows on as the head rises that its session has seen
abbrev pub PendingsKnowLater : Type 0
PendingsKnowLater = (home : ℕ → ℕ) (log : Log) (pending : PendingRequest) (seen later : Seen) → head_in seen ≤ head_in later → head_in later ≤ log.fixed → PendingKnows home log pending seen → PendingKnows home log pending later

-- ---- attempts
abbrev pub AttemptsBegin : Type 0
AttemptsBegin = (home : ℕ → ℕ) (log : Log) (p : Places) (bits : ℕ) (pending : PendingRequest) (seen : Seen) (occasion : Occasion) (spare : ℕ) (is_orphaned : Bool) → PendingKnows home log pending seen → AsksAtPoll pending occasion
    → AttemptKnows home log (attempt_begun p bits pending seen occasion spare is_orphaned)

abbrev pub AttemptRowsStay : Type 0
AttemptRowsStay = (a : AttemptState) → StaysWhere (λ home log after. KeepsForAttempt home log after a a.step) (λ home log. AttemptKnows home log a)

-- where all records of older versions are fixed, nothing more has to be kept
abbrev pub AttemptRowsStayAtRest : Type 0
AttemptRowsStayAtRest = (a : AttemptState) → StaysWhere (λ home log after. OlderAreFixed log a.pending.request.version.0) (λ home log. AttemptKnows home log a)

abbrev pub AttemptsLeadOn : Type 0
AttemptsLeadOn = (home : ℕ → ℕ) (log : Log) (p : Places) (bits room session : ℕ) (a : AttemptState) (reply : ℕ) → IsOrderly home log → Live (floor_in a.pending.request) home log → (a.step ≡ Tries → NoneLaterPast home log p a.trial reply) → (a.step ≡ Tries → MarksTell log p a.trial reply) → AttemptKnows home log a
    → IsTrueOfAttempt home log p a a.step reply → AttemptKnows home log (attempt_next p bits room session a reply)

-- behind a step that changes the log an attempt needs nothing to be kept
abbrev pub OwnChangesKeep : Type 0
OwnChangesKeep = (home : ℕ → ℕ) (log after : Log) (p : Places) (bits room session : ℕ) (a : AttemptState) (reply : ℕ) → a.step ≡ Tries → ChangesLog room a.trial reply
    → KeepsForAttempt home log after (attempt_next p bits room session a reply) (attempt_next p bits room session a reply).step

-- the value that a read's attempt tells is that of the first record of its key from where the read goes down, and it goes on from there
abbrev pub AttemptsTell : Type 0
AttemptsTell = (home : ℕ → ℕ) (log : Log) (p : Places) (bits room session : ℕ) (a : AttemptState) (reply : ℕ) → IsOrderly home log → Live (floor_in a.pending.request) home log → AttemptKnows home log a → is_read a.pending.request.op ≡ true → is_done (attempt_ask p session a) ≡ false
    → IsTrueOfAttempt home log p a a.step reply → AttemptTells home log a (attempt_next p bits room session a reply)

-- ---- replies
-- where the words tell the truth of the log, the reply to a try is true
abbrev pub TriesAreToldTruly : Type 0
TriesAreToldTruly = (home : ℕ → ℕ) (log : Log) (p : Places) (words : List ℕ) (t : TryState) → WordsShow log p t.seen words → TryKnows home log t → TrySearches home log p t t.step (reply_to words (try_ask p t))
    → IsTrueReply home log p t t.step (reply_to words (try_ask p t))

abbrev pub AttemptsAreToldTruly : Type 0
AttemptsAreToldTruly = (home : ℕ → ℕ) (log : Log) (p : Places) (session : ℕ) (words : List ℕ) (a : AttemptState) → WordsShow log p a.seen words → AttemptKnows home log a → AttemptMeets home log p a a.step (reply_to words (attempt_ask p session a))
    → IsTrueOfAttempt home log p a a.step (reply_to words (attempt_ask p session a))

-- ---- how far a read has come in the log
-- a read begins with what it has come to, and a call's read seeks no record yet
abbrev pub ReadsBegin : Type 0
ReadsBegin = (key : ℕ) (reading : Reading) (p : Places) (bits : ℕ) (pending : PendingRequest) (seen : Seen) (occasion : Occasion) (spare : ℕ) (is_orphaned : Bool) → is_read pending.request.op ≡ true
    → (is_poll occasion ≡ false → pending.sought ≡ None) → SoughtReads key reading pending.sought
    → AttemptReads key reading (attempt_begun p bits pending seen occasion spare is_orphaned) (attempt_begun p bits pending seen occasion spare is_orphaned).step

-- each step of its attempt goes along with the log's reading
abbrev pub ReadsGoAlong : Type 0
ReadsGoAlong = (home : ℕ → ℕ) (log : Log) (p : Places) (bits room session : ℕ) (reading : Reading) (a : AttemptState) (reply : ℕ) → IsOrderly home log → Live (floor_in a.pending.request) home log → AttemptKnows home log a → is_read a.pending.request.op ≡ true → is_done (attempt_ask p session a) ≡ false
    → IsTrueOfAttempt home log p a a.step reply → AttemptReads (key_in a.pending.request) reading a a.step
    → AttemptReads (key_in a.pending.request) (reading_after home log p bits room session a reply reading) (attempt_next p bits room session a reply) (attempt_next p bits room session a reply).step
