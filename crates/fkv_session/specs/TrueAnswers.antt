-- What makes an answer true, by what the call has loaded.
use Rattle.std.specs.Prelude.{◌≡◌, ◌⊎◌, ℕ, true, false, Option}
use Rattle.fkv_base.specs.declared.faults.Fault.{Fault}
use Rattle.fkv_base.specs.declared.faults.Fault.TheVariants as fault
use Rattle.fkv_base.specs.declared.numbers.Addr.{Addr}
use Rattle.fkv_base.specs.declared.numbers.Version.{Version}
use Rattle.fkv_base.specs.declared.phases.Phase.{Phase}
use Rattle.fkv_map.specs.declared.operations.Op.{Op}
use Rattle.fkv_plane.specs.declared.places.SharedWord.TheVariants as one
use Rattle.fkv_plane.specs.Places.{shared_place}
use Rattle.fkv_ops.specs.declared.answers.DiskRecord.{DiskRecord}
use Rattle.fkv_ops.specs.declared.answers.Reason.{Reason}
use Rattle.fkv_ops.specs.declared.answers.Reason.TheVariants as reason
use Rattle.fkv_ops.specs.declared.requests.Occasion.TheVariants.{Call}
use Rattle.fkv_ops.specs.declared.requests.Seen.{Seen}
use Rattle.fkv_ops.specs.Reasons.{Loaded, IsReason, IsContended, IsOnDisk, IsIndexFull, AreBucketsKept, HasNoRoom, IsPastTail, MustShift, ReadFinds, ReadMisses}
use Rattle.fkv_ops.specs.Bounds.{bounds_of}
use Rattle.fkv_ops.specs.Requests.{is_read}
use Rattle.fkv_ops.specs.TryRun as try
use Rattle.fkv_session.specs.declared.answers.Told.{Told}
use Rattle.fkv_session.specs.declared.answers.Told.TheVariants as told
use Rattle.fkv_session.specs.InOrder.{IsTakenUp}
use Rattle.fkv_session.specs.Sessions.{Seat, bits_of, room_of, request_of}
use Rattle.fkv_session.specs.Shares.{HasItsBuckets}

-- the operation of a call as it is tried: at the version that the session goes by, with its floor
abbrev pub trial_of : (k : Seat) → HasItsBuckets k → Seen → Addr → Op → try.Trial
trial_of k buckets seen floor op = record { places = k.places; bits = bits_of k; its_buckets = buckets; room = room_of k; request = request_of op seen.version floor; seen = seen; occasion = Call (bounds_of k.shape) }

-- The session has refreshed in this call, and its try meets another session that has gone on.
pub record MustShiftAgain (c : try.Trial) (asked : try.Told) : Type 0 where
  pub must : MustShift c asked
  pub word : ℕ
  pub has_refreshed : Loaded asked (shared_place one.Phase) word

-- Why a request waits: the reason that its try has found. If its record is on the device, the try has told which one it is. If the session is to
-- refresh once more, the request waits as contended; no store is meant to lead there.
abbrev pub WaitsFor : try.Trial → try.Told → Reason → Type 0
WaitsFor c asked reason.Disk = (it : DiskRecord) × IsOnDisk c asked it
WaitsFor c asked reason.Contended = IsContended c asked ⊎ MustShiftAgain c asked
WaitsFor c asked why = IsReason c asked why

pub record WaitsForSome (c : try.Trial) (asked : try.Told) : Type 0 where
  pub why : Reason
  pub its_cause : WaitsFor c asked why

-- the index or the log has no room, or what is left is the polls'
abbrev pub IsFullFor : try.Trial → try.Told → Fault → Type 0
IsFullFor c asked fault.IndexFull = IsIndexFull c asked ⊎ AreBucketsKept c asked
IsFullFor c asked fault.LogFull = HasNoRoom asked c.room ⊎ IsPastTail c asked
IsFullFor c asked why = ⊥

-- What an operation is answered behind its asks. Of an update that is done the law of replies says what it is told.
abbrev pub IsTrueOf : try.Trial → try.Told → Told → Type 0
IsTrueOf c asked (told.Done serial reply) = is_read c.request.op ≡ false
IsTrueOf c asked (told.Pending serial why) = (is_read c.request.op ≡ false) × WaitsFor c asked why
IsTrueOf c asked (told.Found value) = ReadFinds c asked value.0
IsTrueOf c asked told.Absent = ReadMisses c asked
IsTrueOf c asked (told.PendingRead ticket) = (is_read c.request.op ≡ true) × WaitsForSome c asked
IsTrueOf c asked (told.Refused why) = IsFullFor c asked why
IsTrueOf c asked its = ⊥

-- This phase and this version are those that the session goes by from then on. They are what the phase word says that was loaded last. If that
-- says none, they are those that the session went by.
pub record IsPhaseSeen (before after : Seen) (loaded : Option ℕ) (phase : Phase) (version : Version) : Type 0 where
  pub its_phase : after.phase ≡ phase
  pub its_version : after.version ≡ version
  pub its_word : IsTakenUp before after loaded
