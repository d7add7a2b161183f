-- When two sessions stand alike: they differ in nothing that a later ask goes by. What of an operation and of an attempt isn't in hand
-- may differ, since each call begins both anew.
use Rattle.std.specs.Prelude.{◌≡◌, ℕ, Bool, Option, Some, None, List}
use Rattle.fkv_base.specs.declared.numbers.Addr.{Addr}
use Rattle.fkv_map.specs.declared.history.HistoryEntry.{HistoryEntry}
use Rattle.fkv_map.specs.declared.operations.Op.{Op}
use Rattle.fkv_epoch.specs.declared.leaving.Leaving.{Leaving}
use Rattle.fkv_ops.specs.declared.requests.Seen.{Seen}
use Rattle.fkv_pending.specs.declared.mailing.Mailing.{Mailing}
use Rattle.fkv_pending.specs.declared.pending_requests.PendingRequest.{PendingRequest}
use Rattle.fkv_pending.specs.Attempting.{AttemptState}
use Rattle.fkv_session.specs.declared.answers.Finished.{Finished}
use Rattle.fkv_session.specs.declared.sessions.CatchCause.TheVariants.{Shifts}
use Rattle.fkv_session.specs.declared.sessions.Sitting.{Sitting}
use Rattle.fkv_session.specs.declared.sessions.Sitting.TheVariants.{Attempts, CatchesUp, Polls}
use Rattle.fkv_session.specs.CatchingUp.{CatchState}
use Rattle.fkv_session.specs.OwnTurns.{OwnTurnState}
use Rattle.fkv_session.specs.Sessions.{SessionState}

-- what of a session lasts from one call to the next
pub record Lasting : Type 0 where
  pub seen : Seen
  pub serial : ℕ
  pub ticket : ℕ
  pub floor : Addr
  pub requests : List PendingRequest
  pub is_orphaned : Bool
  pub spare : ℕ
  pub is_awake : Bool
  pub finished : List Finished
  pub catching : CatchState
  pub mailing : Mailing
  pub leaving : Leaving
  pub own_turn : OwnTurnState

unfoldable pub lasting : SessionState → Lasting
lasting s =
    record {
      seen = s.seen;
      serial = s.serial;
      ticket = s.ticket;
      floor = s.floor;
      requests = s.requests;
      is_orphaned = s.is_orphaned;
      spare = s.spare;
      is_awake = s.is_awake;
      finished = s.finished;
      catching = s.catching;
      mailing = s.mailing;
      leaving = s.leaving;
      own_turn = s.own_turn;
    }

-- an operation is in hand while it is attempted, and while the session catches up to attempt it once more
abbrev pub op_in_hand : Sitting → Op → Option Op
op_in_hand (Attempts has_shifted) its = Some its
op_in_hand (CatchesUp Shifts) its = Some its
op_in_hand step its = None

-- an attempt is in hand while it asks
abbrev pub attempt_in_hand : Sitting → AttemptState → Option AttemptState
attempt_in_hand (Attempts has_shifted) its = Some its
attempt_in_hand (Polls index) its = Some its
attempt_in_hand step its = None

-- where a session stands: what lasts, how far the call in hand has come, or what its last call was told, and what is in hand
pub record Standing : Type 0 where
  pub lasts : Lasting
  pub step : Sitting
  pub wants_turn : Bool
  pub asks : ℕ
  pub effect : Option HistoryEntry
  pub op : Option Op
  pub attempt : Option AttemptState

unfoldable pub standing : SessionState → Standing
standing s =
    record {
      lasts = lasting s;
      step = s.step;
      wants_turn = s.wants_turn;
      asks = s.asks;
      effect = s.effect;
      op = op_in_hand s.step s.op;
      attempt = attempt_in_hand s.step s.attempt;
    }

abbrev pub StandAlike : SessionState → SessionState → Type 0
StandAlike s t = standing s ≡ standing t
