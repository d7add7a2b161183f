-- The sessions of a store that opens: each is awake with no call in hand, and its machines rest.
use Rattle.std.proofs.Common.{◌≡◌, ℕ, zero, suc, ◌+◌, ◌≤◌, List, [], ◌∷◌, length, Some, None, true, false, refl, ap, subst, arith}
use Rattle.std.specs.Prelude.{All, map, slice_get, slice_index}
use Rattle.fkv_base.specs.Limits.{last_serial}
use Rattle.fkv_base.specs.declared.numbers.Serial.{Serial}
use Rattle.fkv_base.specs.declared.phases.Phase.TheVariants.{Rest}
use Rattle.fkv_epoch.specs.declared.claiming.Claiming.TheVariants as claim
use Rattle.fkv_epoch.specs.declared.leaving.Leaving.TheVariants as leave
use Rattle.fkv_epoch.specs.declared.protecting.Protecting.TheVariants as protect
use Rattle.fkv_epoch.specs.declared.refreshing.Refreshing.TheVariants as refresh
use Rattle.fkv_epoch.specs.declared.scanning.Scanning.TheVariants as scan
use Rattle.fkv_latch.specs.declared.latching.Latching.TheVariants as latch
use Rattle.law_refine.specs.Below.fkv_log.Moving.{move_at_rest}
use Rattle.law_refine.specs.Below.fkv_log.Shifting.{shift_at}
use Rattle.law_refine.specs.Below.fkv_log.Turning.{turn_at}
use Rattle.law_refine.specs.Below.fkv_log.TheShifting.TheVariants as shift
use Rattle.law_refine.specs.Below.fkv_log.TheTurning.TheVariants as turn
use Rattle.fkv_map.specs.declared.operations.Op.TheVariants.{Read}
use Rattle.law_paper.specs.Below.fkv_opening.Opening.{point_of}
use Rattle.law_paper.specs.Below.fkv_opening.TheOpened.{Opened}
use Rattle.law_refine.specs.Below.fkv_ops.Resting.{nothing_seen}
use Rattle.law_refine.specs.Below.fkv_ops.Seen.{Seen}
use Rattle.law_refine.specs.Below.fkv_pending.Attempting.{attempt_rested}
use Rattle.law_refine.specs.Below.fkv_pending.MailAnswer.TheVariants.{NotReady}
use Rattle.law_refine.specs.Below.fkv_pending.TheMailing.TheVariants as mail
use Rattle.law_refine.specs.Below.fkv_session.CatchingUp.{CatchState}
use Rattle.law_refine.specs.Below.fkv_session.OwnTurns.{OwnTurnState}
use Rattle.law_refine.specs.Below.fkv_session.Sessions.{SessionState}
use Rattle.law_refine.specs.Below.fkv_session.Told.TheVariants.{Slept}
use Rattle.law_refine.specs.Below.fkv_session.Catching.TheVariants as catching
use Rattle.law_refine.specs.Below.fkv_session.OwnTurning.TheVariants as own
use Rattle.law_refine.specs.Below.fkv_session.Sitting.TheVariants.{Idle}
use Rattle.fkv_core.specs.Openings.{IsOpeningSession}

catch_rested : CatchState
catch_rested = record { seen = nothing_seen; serial = 0; is_refresh = false; is_entering = false; refreshing = refresh.AtRest; protecting = protect.AtRest; latching = latch.AtRest; step = catching.Ended }

own_turn_rested : OwnTurnState
own_turn_rested = record { scanning = scan.AtRest; claiming = claim.AtRest; shift = shift_at shift.AtRest move_at_rest; turn = turn_at turn.AtRest move_at_rest; step = own.Ended }

seen_by : Opened → Seen
seen_by o = record { phase = Rest; version = record { 0 = o.number.0 + 1 }; offsets = record { head = o.warm; read_only = o.tail } }

pub session_of : Opened → ℕ → SessionState
session_of o number = record {
  seen = seen_by o;
  serial = point_of o number;
  ticket = 0;
  floor = o.begin;
  requests = [];
  is_orphaned = false;
  spare = 0;
  is_awake = true;
  wants_turn = false;
  asks = 0;
  effect = None;
  finished = [];
  op = Read (record { 0 = 0 });
  catching = catch_rested;
  mailing = mail.Ended NotReady;
  attempt = attempt_rested o.shape.bucket_bits;
  leaving = leave.AtRest;
  own_turn = own_turn_rested;
  step = Idle Slept;
}

point_small : (points : List Serial) → All (λ point. point.0 ≤ last_serial) points → (number : ℕ) → slice_index (map (λ (point : Serial). point.0) points) number ≤ last_serial
point_small [] small number = omega arith
point_small (point ∷ points) small zero = small zero point (omega arith)
point_small (point ∷ points) small (suc number) = point_small points (λ k d below. small (suc k) d (omega (arith, below))) number

pub session_opens : (o : Opened) (number : ℕ) → IsOpeningSession o number (session_of o number)
unfolding session_of seen_by
session_opens o number = record {
  opened = record { awake = refl; none_wait = refl; no_ticket = refl; no_orphan = refl; no_spare = refl; no_asks = refl; no_effect = refl; none_finished = refl; none_in_hand = refl; serial_fits = point_small o.points.items o.small_points number };
  serial = refl;
  floor = refl;
  saw = record { phase = refl; version = refl; head = refl; read_only = refl };
}

-- so many of them, from a number on
pub sessions_from : Opened → ℕ → ℕ → List SessionState
sessions_from o number zero = []
sessions_from o number (suc many) = session_of o number ∷ sessions_from o (suc number) many

pub so_many : (o : Opened) (number many : ℕ) → length (sessions_from o number many) ≡ many
unfolding sessions_from
so_many o number zero = refl
so_many o number (suc many) = ap (λ (n : ℕ). suc n) (so_many o (suc number) many)

pub each_opens : (o : Opened) (number many i : ℕ) (s : SessionState) → slice_get (sessions_from o number many) i ≡ Some s → IsOpeningSession o (number + i) s
unfolding sessions_from
each_opens o number zero i s found = absurd (cc)
each_opens o number (suc many) zero s found =
    let same : session_of o number ≡ s = cc in
    subst (λ (at : ℕ). IsOpeningSession o at s) (let here : number ≡ number + 0 = omega arith in here) (subst (λ (its : SessionState). IsOpeningSession o number its) same (session_opens o number))
each_opens o number (suc many) (suc i) s found =
    subst (λ (at : ℕ). IsOpeningSession o at s) (let there : suc number + i ≡ number + suc i = omega arith in there) (each_opens o (suc number) many i s found)
