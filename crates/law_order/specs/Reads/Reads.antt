-- How far the reads of a life have come in the log: those that calls have in hand, that wait, and that polls have finished.
use Rattle.std.specs.Prelude.{◌≡◌, ⊤, ℕ, if◌then◌else◌, Bool, true, false, List, [], ◌∷◌, slice_get, Some}
use Rattle.fkv_map.specs.declared.operations.Op.{Op}
use Rattle.fkv_map.specs.Keys.{key_of, as_number}
use Rattle.law_commit.specs.Below.fkv_ops.Requests.{is_read}
use Rattle.law_log.specs.Ghosts.{Ghosts, Reading}
use Rattle.law_commit.specs.Below.fkv_pending.PendingRequest.{PendingRequest}
use Rattle.law_commit.specs.Below.fkv_pending.Attempting.{AttemptState, is_poll}
use Rattle.law_commit.specs.Below.fkv_session.Finished.{Finished}
use Rattle.law_commit.specs.Below.fkv_session.Finished.TheVariants as finished
use Rattle.law_commit.specs.Below.fkv_session.Told.{Told}
use Rattle.law_commit.specs.Below.fkv_session.Told.TheVariants as told
use Rattle.law_commit.specs.Below.fkv_session.CatchCause.{CatchCause}
use Rattle.law_commit.specs.Below.fkv_session.CatchCause.TheVariants.{Shifts}
use Rattle.law_commit.specs.Below.fkv_session.Sitting.{Sitting}
use Rattle.law_commit.specs.Below.fkv_session.Sitting.TheVariants.{Attempts, CatchesUp, ClearsMail, Polls, StoresOwing, Turns}
use Rattle.law_commit.specs.Below.fkv_session.Sessions.{SessionState}
use Rattle.law_commit.specs.Below.law_local.Tries.ReadRows.{IsCalledFor, HasRead, SoughtReads, AttemptReads}
use Rattle.law_commit.specs.Below.law_local.Tries.TryRows.{key_in}
use Rattle.law_commit.specs.Below.fkv_world.Past.{Traced}
use Rattle.law_commit.specs.Below.fkv_world.Runs.{World, run}
use Rattle.law_commit.specs.Below.fkv_world.World.{Event}
use Rattle.law_commit.specs.Below.law_refine.Events.GhostEvents.{life_ghosts}
use Rattle.law_commit.specs.Below.law_refine.Events.Lines.{read_in_hand, read_waiting, gives_ticket}
use Rattle.law_commit.specs.Below.law_refine.Events.Sessions.{ticket_of}

-- a ticket was given to a read of the session
abbrev pub is_given : ℕ → ℕ → List Traced → Bool
is_given session ticket [] = false
is_given session ticket (it ∷ before) = if gives_ticket session ticket it.its then true else is_given session ticket before

-- How far the reads of a session have come: the one that it has in hand, and by their tickets those that wait.
pub record SessionReadings : Type 0 where
  pub given : ℕ → Bool
  pub in_hand : Reading
  pub waiting : ℕ → Reading

abbrev pub readings_of : (ℕ → Reading) → List Traced → ℕ → SessionReadings
readings_of reads trace session = record { given = λ ticket. is_given session ticket trace; in_hand = reads (read_in_hand session trace); waiting = λ ticket. reads (read_waiting session ticket trace) }

-- ---- a request that waits
-- a read that waits has a ticket, and has come as far as the record that it seeks
abbrev pub WaitsSo : SessionReadings → PendingRequest → Type 0
WaitsSo r pending = is_read pending.request.op ≡ true → (r.given (ticket_of pending.name) ≡ true) × SoughtReads (key_in pending.request) (r.waiting (ticket_of pending.name)) pending.sought

abbrev pub AllWait : SessionReadings → List PendingRequest → Type 0
AllWait r requests = (index : ℕ) (pending : PendingRequest) → slice_get requests index ≡ Some pending → WaitsSo r pending

-- but for the one that is polled
abbrev pub AllWaitBut : SessionReadings → List PendingRequest → ℕ → Type 0
AllWaitBut r requests polled = (index : ℕ) (pending : PendingRequest) → slice_get requests index ≡ Some pending → (index ≡ polled → ⊥) → WaitsSo r pending

-- ---- an attempt
-- a read is attempted at its call, or in a poll under its ticket
abbrev pub reading_tried : SessionReadings → Bool → ℕ → Reading
reading_tried r in_poll ticket = if in_poll then r.waiting ticket else r.in_hand

abbrev pub TriedAs : SessionReadings → PendingRequest → Bool → AttemptState → Type 0
TriedAs r pending in_poll a = is_read pending.request.op ≡ true
    → (in_poll ≡ true → r.given (ticket_of pending.name) ≡ true) × AttemptReads (key_in pending.request) (reading_tried r in_poll (ticket_of pending.name)) a a.step

-- it has come as far as its attempt
abbrev pub TriedSo : SessionReadings → AttemptState → Type 0
TriedSo r a = TriedAs r a.pending (is_poll a.occasion) a

-- ---- what a poll has finished
-- a read has the value that the poll will tell
abbrev pub FinishedSo : SessionReadings → Finished → Type 0
FinishedSo r (finished.Update serial its) = ⊤
FinishedSo r (finished.Read ticket value) = (r.given ticket.0 ≡ true) × ((key : ℕ) × HasRead (r.waiting ticket.0) key (as_number value))

abbrev pub AllFinished : SessionReadings → List Finished → Type 0
AllFinished r [] = ⊤
AllFinished r (it ∷ rest) = FinishedSo r it × AllFinished r rest

-- ---- by the session's control state
-- a call that shifts tries its read once more
abbrev pub CatchReads : SessionReadings → Op → CatchCause → Type 0
CatchReads r op Shifts = is_read op ≡ true → IsCalledFor r.in_hand (key_of op).0
CatchReads r op cause = ⊤

-- no call of a read is answered behind a turn
abbrev pub TurnReads : SessionReadings → List Finished → Told → Type 0
TurnReads r its (told.Polled left) = AllFinished r its
TurnReads r its (told.Found value) = ⊥
TurnReads r its told.Absent = ⊥
TurnReads r its (told.PendingRead ticket) = ⊥
TurnReads r its answer = ⊤

abbrev pub SitsReads : SessionReadings → SessionState → Sitting → Type 0
SitsReads r s (Attempts has_shifted) = AllWait r s.requests × TriedSo r s.attempt
SitsReads r s (Polls index) = AllWaitBut r s.requests index × TriedSo r s.attempt × AllFinished r s.finished
SitsReads r s (CatchesUp cause) = AllWait r s.requests × CatchReads r s.op cause
SitsReads r s ClearsMail = AllWait r s.requests × AllFinished r s.finished
SitsReads r s (StoresOwing index) = AllWait r s.requests × AllFinished r s.finished
SitsReads r s (Turns its) = AllWait r s.requests × TurnReads r s.finished its
SitsReads r s step = AllWait r s.requests

abbrev pub SessionReads : (ℕ → Reading) → List Traced → ℕ → SessionState → Type 0
SessionReads reads trace number s = SitsReads (readings_of reads trace number) s s.step

-- ---- of each session, behind these events of a life
abbrev pub ReadsKnown : World → Ghosts → List Event → Type 0
ReadsKnown opening ghosts events = (number : ℕ) (s : SessionState) → slice_get (run opening events).now.sessions number ≡ Some s → SessionReads (life_ghosts opening ghosts events).reads (run opening events).past.trace number s

-- and at each moment of it
unfoldable pub AreReadsKnown : World → Ghosts → List Event → Type 0
AreReadsKnown opening ghosts [] = ReadsKnown opening ghosts []
AreReadsKnown opening ghosts (event ∷ before) = AreReadsKnown opening ghosts before × ReadsKnown opening ghosts (event ∷ before)
