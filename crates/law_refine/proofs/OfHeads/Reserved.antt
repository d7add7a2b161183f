-- What a step publishes is what the session has reserved, of the operation that it attempts.
use Rattle.std.proofs.Common.{◌≡◌, ℕ, sym, ap, subst, List, [], ◌∷◌}
use Rattle.std.specs.Prelude.{Option, Some, None}
use Rattle.fkv_epoch.proofs.Shown.{some_same}
use Rattle.fkv_map.specs.declared.history.HistoryEntry.{HistoryEntry}
use Rattle.law_log.specs.Ghosts.{GhostEvent, Publishes}
use Rattle.law_world.specs.Below.fkv_log.TheInvalidating.{Invalidating}
use Rattle.law_world.specs.Below.fkv_log.TheInvalidating.TheVariants as invalidating
use Rattle.law_world.specs.Below.fkv_ops.TheAppending.{Appending}
use Rattle.law_world.specs.Below.fkv_ops.TheAppending.TheVariants as appending
use Rattle.law_world.specs.Below.fkv_ops.TheTrying.{Trying}
use Rattle.law_world.specs.Below.fkv_ops.TheTrying.TheVariants.{Appends}
use Rattle.law_world.specs.Below.fkv_ops.Appending.{AppendState}
use Rattle.law_world.specs.Below.fkv_ops.Trying.{TryState}
use Rattle.law_world.specs.Below.fkv_pending.TheAttempting.{Attempting}
use Rattle.law_world.specs.Below.fkv_pending.TheAttempting.TheVariants.{Tries}
use Rattle.law_world.specs.Below.fkv_pending.PendingRequest.{PendingRequest}
use Rattle.law_world.specs.Below.fkv_pending.Attempting.{AttemptState}
use Rattle.law_world.specs.Below.fkv_session.Sitting.{Sitting}
use Rattle.law_world.specs.Below.fkv_session.Sitting.TheVariants.{Attempts, Polls}
use Rattle.law_world.specs.Below.fkv_session.Sessions.{SessionState}
use Rattle.law_refine.specs.Events.Appends.{NewRecord, new_record}
use Rattle.law_refine.specs.Events.Effects.{is_quiet, AreQuiet, Stepped, PublishesIt, TakesEffect, Quietly, Behind, InPlace, ByRecord}
use Rattle.law_refine.specs.Events.Reservations.{Reservation, reservation, invalidate_reserves, append_reserves, try_reserves, attempt_reserves}
use Rattle.law_refine.specs.Events.Reserved.{sitting_reserves}
use Rattle.law_refine.proofs.OfHeads.Steps.{leaves_chains}

-- ---- by the events of a step
pub record PublishesAt (its_step : Stepped) (a : ℕ) : Type 0 where
  pub its : Reservation
  pub publishes : PublishesIt its_step its
  pub its_addr : its.addr ≡ a

pub takes_one : (its_step : Stepped) (a : ℕ) (events : List GhostEvent) (made : Option HistoryEntry) → TakesEffect its_step events made → events ≡ Publishes a ∷ [] → PublishesAt its_step a
takes_one its_step a events made (Quietly all quiet) e = absurd (subst AreQuiet e quiet).0
takes_one its_step a events made (Behind event quiet its) e = let same : event ≡ Publishes a = cc in absurd (subst is_quiet same quiet)
takes_one its_step a events made (InPlace b entry changes) e = cc
takes_one its_step a events made (ByRecord its is) e = record { its = its; publishes = is; its_addr = cc }

abbrev tail_of : List GhostEvent → List GhostEvent
tail_of [] = []
tail_of (event ∷ before) = before

-- without the newest event, which publishes nothing
pub takes_behind : (its_step : Stepped) (event : GhostEvent) (before events : List GhostEvent) (made : Option HistoryEntry) → leaves_chains event → TakesEffect its_step events made → events ≡ event ∷ before
    → (other : Option HistoryEntry) × TakesEffect its_step before other
takes_behind its_step event before events made leaves (Quietly all quiet) e = (None, Quietly before (subst AreQuiet e quiet).1)
takes_behind its_step event before events made leaves (Behind first quiet its) e = (made, subst (λ (xs : List GhostEvent). TakesEffect its_step xs made) (ap tail_of e) its)
takes_behind its_step event before events made leaves (InPlace b entry changes) e = (None, subst (λ (xs : List GhostEvent). TakesEffect its_step xs None) (ap tail_of e) (Quietly [] tt))
takes_behind its_step event before events made leaves (ByRecord its is) e = let same : event ≡ Publishes its.addr = cc in absurd (subst leaves_chains same leaves)

-- ---- by how far an append has come
invalidate_entry : (a : AppendState) (made : NewRecord) (step : Invalidating) (its : Reservation) → invalidate_reserves a made step ≡ Some its → its.entry ≡ made.entry
invalidate_entry a made invalidating.AtRest its e = cc
invalidate_entry a made (invalidating.StoresHeader addr header) its e = ap (λ (x : Reservation). x.entry) (sym (some_same (reservation a made addr.0) its e))

append_entry : (a : AppendState) (made : NewRecord) (step : Appending) (its : Reservation) → append_reserves a made step ≡ Some its → its.entry ≡ made.entry
append_entry a made (appending.Fills addr) its e = ap (λ (x : Reservation). x.entry) (sym (some_same (reservation a made addr.0) its e))
append_entry a made (appending.Publishes addr) its e = ap (λ (x : Reservation). x.entry) (sym (some_same (reservation a made addr.0) its e))
append_entry a made appending.Invalidates its e = invalidate_entry a made a.invalidating its e
append_entry a made step its e = cc

-- it is of the operation of the request
try_op : (session : ℕ) (pending : PendingRequest) (t : TryState) (step : Trying) (its : Reservation) → try_reserves session pending t step ≡ Some its → its.entry.op ≡ pending.request.op
try_op session pending t (Appends told) its e = ap (λ (x : HistoryEntry). x.op) (append_entry t.append (new_record session pending told) t.append.step its e)
try_op session pending t step its e = cc

attempt_op : (session : ℕ) (a : AttemptState) (step : Attempting) (its : Reservation) → attempt_reserves session a step ≡ Some its → its.entry.op ≡ a.pending.request.op
attempt_op session a Tries its e = try_op session a.pending a.trial a.trial.step its e
attempt_op session a step its e = cc

pub reserved_op : (session : ℕ) (s : SessionState) (step : Sitting) (its : Reservation) → sitting_reserves session s step ≡ Some its → its.entry.op ≡ s.attempt.pending.request.op
reserved_op session s (Attempts has_shifted) its e = attempt_op session s.attempt s.attempt.step its e
reserved_op session s (Polls index) its e = attempt_op session s.attempt s.attempt.step its e
reserved_op session s step its e = cc
