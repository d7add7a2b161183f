-- What a try of a read comes to.
use Rattle.std.specs.Prelude.{◌≡◌, ◌≢◌, ◌⊎◌, ◌<◌, ◌≤◌, ◌∷◌, ◌++◌, ⊤, ℕ, false, true, List, Some, slice_get}
use Rattle.std.specs.Option.{is_some}
use Rattle.law_commit.specs.Below.fkv_ops.TryAnswer.{TryAnswer}
use Rattle.law_commit.specs.Below.fkv_ops.TryAnswer.TheVariants.{Absent, AwaitsDisk, Found}
use Rattle.law_commit.specs.Below.fkv_ops.TheTrying.TheVariants.{Ended}
use Rattle.law_commit.specs.Below.fkv_ops.Requests.{is_read}
use Rattle.law_commit.specs.Below.fkv_ops.Trying.{try_next}
use Rattle.law_commit.specs.Below.fkv_pending.TheAttempting.TheVariants.{Tries}
use Rattle.law_commit.specs.Below.fkv_pending.MailRecord.{MailRecord}
use Rattle.law_commit.specs.Below.fkv_pending.Mailing.{is_gone}
use Rattle.law_commit.specs.Below.fkv_pending.PendingRequest.{PendingRequest}
use Rattle.law_commit.specs.Below.fkv_session.Sitting.TheVariants.{Polls}
use Rattle.law_commit.specs.Below.fkv_session.Sessions.{SessionState, room_of}
use Rattle.law_commit.specs.Below.fkv_world.Runs.{World, run}
use Rattle.law_commit.specs.Below.fkv_world.World.{Event, Now, seat_at}
use Rattle.law_opening.specs.Below.fkv_core.Openings.{beginning}
use Rattle.law_opening.specs.Below.fkv_opening.TheOpened.{Opened}
use Rattle.law_commit.specs.Below.law_local.Sessions.Known.{is_attempting}
use Rattle.law_commit.specs.Below.law_refine.Mail.Reads.{IsTaking}
use Rattle.law_order.specs.Known.Begins.{BeginStays, begin_in}
use Rattle.law_order.specs.Known.Told.{reply_in}

-- It tells a value, or none, or it seeks a record of the device. It isn't turned away: it has met no contention, shifts nowhere, and needs no room.
abbrev pub IsMet : TryAnswer → Type 0
IsMet (Found value) = ⊤
IsMet Absent = ⊤
IsMet (AwaitsDisk it) = ⊤
IsMet its = ⊥

-- so it is where the next step of a session ends the try of a read
abbrev pub MeetsItsReads : World → List Event → Type 0
MeetsItsReads opening events =
    (session : ℕ) (s : SessionState) (its : TryAnswer) → slice_get (run opening events).now.sessions session ≡ Some s → is_attempting s.step ≡ true → s.attempt.step ≡ Tries → is_read s.attempt.pending.request.op ≡ true
    → (try_next (run opening events).now.places (room_of (seat_at (run opening events).now session)) s.attempt.trial (reply_in (run opening events).now session s)).step ≡ Ended its → IsMet its

-- ---- reads that wait
-- a request seeks a record of the device, if it is a read
abbrev pub SeeksOne : PendingRequest → Type 0
SeeksOne pending = is_read pending.request.op ≡ true → is_some pending.sought ≡ true

-- or it goes by such a floor
abbrev pub SeeksOr : (ℕ → Type 0) → PendingRequest → Type 0
SeeksOr G pending = is_read pending.request.op ≡ true → (is_some pending.sought ≡ true) ⊎ G pending.request.floor.0

-- The session was told that a record is gone, at a moment before the last of these events: it was told this begin. That is the log's begin at that moment or an earlier one,
-- and lies above where it began at first.
pub record WasToldGone (opening : World) (session : ℕ) (events : List Event) (begin : ℕ) : Type 0 where
  pub later : List Event
  pub event : Event
  pub earlier : List Event
  pub its : MailRecord
  pub cut : events ≡ later ++ (event ∷ earlier)
  pub takes : IsTaking (run opening earlier).now session its
  pub gone : is_gone its ≡ true
  pub tells : its.key.0 ≡ begin
  pub above : begin_in opening < begin
  pub upto : begin ≤ begin_in (run opening earlier)

-- Each read that waits seeks a record of the device, or its session was told that what it sought is gone. Then it goes by the begin that was told, and isn't tried
-- yet. What the list has of the one that is polled is out of date while its attempt is under way.
abbrev pub ReadsSeekOrWereTold : World → List Event → Type 0
ReadsSeekOrWereTold opening events =
    (session : ℕ) (s : SessionState) (index : ℕ) (pending : PendingRequest) → slice_get (run opening events).now.sessions session ≡ Some s → slice_get s.requests index ≡ Some pending → s.step ≢ Polls index
    → SeeksOr (WasToldGone opening session events) pending

-- and a poll tries a read only where that was told so, and it seeks no other record since
abbrev pub PollsTryWhatIsGone : World → List Event → Type 0
PollsTryWhatIsGone opening events =
    (session : ℕ) (s : SessionState) (index : ℕ) → slice_get (run opening events).now.sessions session ≡ Some s → s.step ≡ Polls index → s.attempt.step ≡ Tries → is_read s.attempt.pending.request.op ≡ true
    → (is_some s.attempt.pending.sought ≡ false) × WasToldGone opening session events s.attempt.pending.request.floor.0

-- ---- while the log begins where it did at first, nobody is told so

-- each that waits seeks a record
abbrev pub AllReadsSeek : World → List Event → Type 0
AllReadsSeek opening events =
    (session : ℕ) (s : SessionState) (index : ℕ) (pending : PendingRequest) → slice_get (run opening events).now.sessions session ≡ Some s → slice_get s.requests index ≡ Some pending → s.step ≢ Polls index → SeeksOne pending

-- and no poll tries a read: it waits for the mailbox alone
abbrev pub PollsTryNoRead : World → List Event → Type 0
PollsTryNoRead opening events =
    (session : ℕ) (s : SessionState) (index : ℕ) → slice_get (run opening events).now.sessions session ≡ Some s → s.step ≡ Polls index → s.attempt.step ≡ Tries → is_read s.attempt.pending.request.op ≡ false

-- So it is in a life of an opened store.
pub record SeeksItsReads (o : Opened) (n : Now) (bytes : List ℕ) (events : List Event) : Type 0 where
  pub seek_or_told : ReadsSeekOrWereTold (beginning n bytes) events
  pub try_gone : PollsTryWhatIsGone (beginning n bytes) events
  pub seek : BeginStays (beginning n bytes) events → AllReadsSeek (beginning n bytes) events
  pub try_none : BeginStays (beginning n bytes) events → PollsTryNoRead (beginning n bytes) events
