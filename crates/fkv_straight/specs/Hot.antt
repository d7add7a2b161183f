-- What the hot part of a call has left to do.
use Rattle.std.specs.Prelude.{◌≡◌, ◌≤◌, ⊤, ℕ, true, false, None}
use Rattle.fkv_map.specs.declared.operations.Call.TheVariants as call
use Rattle.fkv_map.specs.declared.operations.Op.{Op}
use Rattle.fkv_ops.specs.Bounds.{bounds_at}
use Rattle.fkv_ops.specs.Requests.{is_read}
use Rattle.fkv_session.specs.Alike.{lasting}
use Rattle.fkv_session.specs.Sessions.{Seat, SessionState}
use Rattle.fkv_straight.specs.declared.hot.Due.{Due}
use Rattle.fkv_straight.specs.declared.hot.Due.TheVariants.{Met, OnDisk, Lost, Unusual}
use Rattle.fkv_straight.specs.Course.{Course, course_of, shares}
use Rattle.fkv_straight.specs.Mailbox.{IsAway}
use Rattle.fkv_straight.specs.Met.{HasMet}
use Rattle.fkv_straight.specs.Standing.{IsWaiting}

-- An update has met this, and no step was made since; a read's chain leaves memory at this record; an update has lost to another session, and waits if it has no bounds; or
-- nothing is said.
abbrev pub IsDue : Course → Due → SessionState → Type 0
IsDue c (Met its) s = (is_read c.op ≡ false) × (shares c ≡ false) × HasMet c its s
IsDue c (OnDisk sought) s = (is_read c.op ≡ true) × IsAway c sought s
IsDue c Lost s = (is_read c.op ≡ false) × (bounds_at c.occasion ≡ None → IsWaiting c s)
IsDue c Unusual s = ⊤

-- behind a search there is room for the replies of all that may follow
abbrev pub HasRoom : Due → ℕ → Type 0
HasRoom (Met its) kept = kept ≤ 48
HasRoom (OnDisk sought) kept = kept ≤ 48
HasRoom Lost kept = ⊤
HasRoom Unusual kept = ⊤

-- A machine of which the same lasts as of the session where the operation's call began; the session stands where this is left of the call, with so many replies.
pub record HasLeft (k : Seat) (machine : SessionState) (op : Op) (its : Due) (kept : ℕ) (s : SessionState) : Type 0 where
  pub start : SessionState
  pub alike : lasting machine ≡ lasting start
  pub due : IsDue (course_of k start op (call.Op op)) its s
  pub room : HasRoom its kept
