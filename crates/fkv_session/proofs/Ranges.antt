-- What a session's step needs of its requests is a matter of how many there are.
use Rattle.std.proofs.Common.{◌≡◌, ℕ, List, length, arith}
use Rattle.fkv_map.specs.declared.operations.Op.{Op}
use Rattle.fkv_pending.specs.declared.pending_requests.PendingRequest.{PendingRequest}
use Rattle.fkv_session.specs.declared.answers.Finished.{Finished}
use Rattle.fkv_session.specs.declared.sessions.CatchCause.{CatchCause}
use Rattle.fkv_session.specs.declared.sessions.CatchCause.TheVariants.{Refreshes, Wakes, Shifts}
use Rattle.fkv_session.specs.declared.sessions.Sitting.TheVariants.{CatchesUp}
use Rattle.fkv_session.specs.Sessions.{IsStepInRange}

pub catches_in_range : (requests after : List PendingRequest) (its : List Finished) (op : Op) (serial : ℕ) (cause : CatchCause) → length after ≡ length requests
    → IsStepInRange requests its op serial (CatchesUp cause) → IsStepInRange after its op serial (CatchesUp cause)
catches_in_range requests after its op serial Refreshes same range = tt
catches_in_range requests after its op serial Wakes same range = tt
catches_in_range requests after its op serial Shifts same range = record { fewer = omega (arith, same, range.fewer); serial_left = range.serial_left }
