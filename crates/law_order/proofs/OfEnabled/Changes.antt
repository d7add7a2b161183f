-- What a session is about to change in place is published: its try has found the record.
use Rattle.std.proofs.Common.{◌≡◌, ℕ, List, refl, sym, subst, true}
use Rattle.std.specs.Prelude.{Option, Some, None, slice_get}
use Rattle.fkv_epoch.proofs.Shown.{none_some, some_same}
use Rattle.law_commit.specs.Below.law_world.GuardSessions.InPlace.{try_changes, attempt_changes, sitting_changes}
use Rattle.law_commit.specs.Below.fkv_ops.TheTrying.{Trying}
use Rattle.law_commit.specs.Below.fkv_ops.TheTrying.TheVariants.{SwapsValue, ChangesValue}
use Rattle.law_commit.specs.Below.fkv_ops.Trying.{TryState}
use Rattle.law_log.specs.Chains.{Cell, Published}
use Rattle.law_log.specs.Ghosts.{Log}
use Rattle.law_commit.specs.Below.fkv_pending.TheAttempting.{Attempting}
use Rattle.law_commit.specs.Below.fkv_pending.TheAttempting.TheVariants.{Tries}
use Rattle.law_commit.specs.Below.fkv_pending.Attempting.{AttemptState}
use Rattle.law_commit.specs.Below.fkv_session.Sitting.{Sitting}
use Rattle.law_commit.specs.Below.fkv_session.Sitting.TheVariants.{Attempts, Polls}
use Rattle.law_commit.specs.Below.fkv_session.Sessions.{SessionState}
use Rattle.law_commit.specs.Below.law_local.Sessions.Known.{is_attempting}
use Rattle.law_commit.specs.Below.law_local.Tries.AttemptRows.{AttemptKnows, AttemptRow}
use Rattle.law_commit.specs.Below.law_local.Tries.TryRows.{TryRow}
use Rattle.law_commit.specs.Below.fkv_world.Runs.{run}
use Rattle.law_commit.specs.Below.fkv_world.World.{Event, Moves}
use Rattle.law_commit.specs.Below.law_refine.Events.GhostEvents.{life_ghosts}
use Rattle.law_commit.specs.Below.law_refine.Events.Published.{IsPublished}
use Rattle.law_commit.specs.Below.law_refine.Records.Changes.{ChangesPublished, SessionChangesPublished}
use Rattle.law_order.specs.Known.Begins.{BegunLife, home_of_world}
use Rattle.law_order.specs.Known.Knows.{AreKnown, SessionKnows}
use Rattle.law_order.proofs.OfKnown.Newest.{known_now}

-- ---- by the control state
found_published : (log : Log) (at a : ℕ) (cell : Cell) → log.cells at ≡ Published cell → Some at ≡ Some a → IsPublished (log.cells a)
found_published log at a cell its e = subst (λ (i : ℕ). IsPublished (log.cells i)) (some_same at a e) (subst IsPublished (sym its) tt)

try_published : (home : ℕ → ℕ) (log : Log) (t : TryState) (step : Trying) (a : ℕ) → TryRow home log t step → try_changes step ≡ Some a → IsPublished (log.cells a)
try_published home log t (SwapsValue addr) a row e = found_published log addr.0 a row.2.found.cell row.2.found.its e
try_published home log t (ChangesValue addr old) a row e = found_published log addr.0 a row.1.found.cell row.1.found.its e
try_published home log t step a row e = none_some a e

attempt_published : (home : ℕ → ℕ) (log : Log) (its : AttemptState) (step : Attempting) (a : ℕ) → AttemptRow home log its step → attempt_changes its step ≡ Some a → IsPublished (log.cells a)
attempt_published home log its Tries a row e = try_published home log its.trial its.trial.step a row.knows.row e
attempt_published home log its step a row e = none_some a e

sitting_published : (home : ℕ → ℕ) (log : Log) (s : SessionState) (step : Sitting) (a : ℕ) → (is_attempting step ≡ true → AttemptKnows home log s.attempt) → sitting_changes s step ≡ Some a → IsPublished (log.cells a)
sitting_published home log s (Attempts has_shifted) a knows e = attempt_published home log s.attempt s.attempt.step a (knows refl).row e
sitting_published home log s (Polls index) a knows e = attempt_published home log s.attempt s.attempt.step a (knows refl).row e
sitting_published home log s step a knows e = none_some a e

session_published : (home : ℕ → ℕ) (log : Log) (found : Option SessionState) → ((s : SessionState) → found ≡ Some s → SessionKnows home log s) → SessionChangesPublished log found
session_published home log None knows = tt
session_published home log (Some s) knows = λ a e. sitting_published home log s s.step a (knows s refl).attempted e

-- ---- before each event of a life
pub changes_published : (life : BegunLife) (before : List Event) (event : Event)
    → AreKnown life.opening life.ghosts before → ChangesPublished (run life.opening before).now (life_ghosts life.opening life.ghosts before).log event
changes_published life before (Moves session) known =
    session_published (home_of_world life.opening) (life_ghosts life.opening life.ghosts before).log (slice_get (run life.opening before).now.sessions session) (λ s found. known_now life.opening life.ghosts before known session s found)
changes_published life before event known = tt
