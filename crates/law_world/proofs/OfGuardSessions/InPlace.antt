-- That a step of a session is permitted, from its own run and from what is left.
use Rattle.std.proofs.Common.{◌≡◌, ℕ, ◌≤◌, subst}
use Rattle.std.specs.Prelude.{Some}
use Rattle.fkv_ops.specs.declared.requests.Seen.{Seen}
use Rattle.fkv_ops.specs.declared.trying.Trying.{Trying}
use Rattle.fkv_ops.specs.declared.trying.Trying.TheVariants.{SwapsValue, ChangesValue}
use Rattle.fkv_ops.specs.Trying.{TryState}
use Rattle.fkv_pending.specs.declared.attempting.Attempting.{Attempting}
use Rattle.fkv_pending.specs.declared.attempting.Attempting.TheVariants.{Tries}
use Rattle.fkv_pending.specs.Attempting.{AttemptState}
use Rattle.fkv_session.specs.declared.sessions.Sitting.{Sitting}
use Rattle.fkv_session.specs.declared.sessions.Sitting.TheVariants.{Attempts, Polls}
use Rattle.fkv_session.specs.SessionRun.{session_run}
use Rattle.fkv_session.specs.Sessions.{SessionState}
use Rattle.law_world.specs.GuardSessions.InPlace.{try_changes, attempt_changes, sitting_changes, ChangesAreAbove, RunsMayChange, RunsWriteOuter}
use Rattle.law_world.proofs.OfGuardSessions.SessionsOuter.{its_homes, session_owes, session_run_outer}
use Rattle.law_world.proofs.OfGuardSessions.TriesSeen.{TryAbove}
use Rattle.law_world.proofs.OfGuardSessions.AttemptsSeen.{AttemptAbove}
use Rattle.law_world.proofs.OfGuardSessions.SessionsSeen.{SittingAbove, session_run_above}

try_high : (seen : Seen) (t : TryState) (step : Trying) (addr : ℕ) → t.seen ≡ seen → TryAbove t step → try_changes step ≡ Some addr → seen.offsets.read_only.0 ≤ addr
try_high seen t (SwapsValue its) addr same above e = let here : its.0 ≡ addr = cc in subst (λ (x : ℕ). seen.offsets.read_only.0 ≤ x) here (subst (λ (x : Seen). x.offsets.read_only.0 ≤ its.0) same above)
try_high seen t (ChangesValue its old) addr same above e = let here : its.0 ≡ addr = cc in subst (λ (x : ℕ). seen.offsets.read_only.0 ≤ x) here (subst (λ (x : Seen). x.offsets.read_only.0 ≤ its.0) same above)
try_high seen t step addr same above e = cc

attempt_high : (seen : Seen) (a : AttemptState) (step : Attempting) (addr : ℕ) → AttemptAbove seen a step → attempt_changes a step ≡ Some addr → seen.offsets.read_only.0 ≤ addr
attempt_high seen a Tries addr above e = try_high seen a.trial a.trial.step addr above.same above.above e
attempt_high seen a step addr above e = cc

sitting_high : (s : SessionState) (step : Sitting) (addr : ℕ) → SittingAbove s step → sitting_changes s step ≡ Some addr → s.seen.offsets.read_only.0 ≤ addr
sitting_high s (Attempts has_shifted) addr above e = attempt_high s.seen s.attempt s.attempt.step addr above.above e
sitting_high s (Polls index) addr above e = attempt_high s.seen s.attempt s.attempt.step addr above.above e
sitting_high s step addr above e = cc

-- at every moment of a session's run
pub run_above : ChangesAreAbove
run_above seat opening events opened addr e = let s : SessionState = session_run seat opening events in sitting_high s s.step addr (session_run_above seat opening events opened) e

pub run_may_change : RunsMayChange
run_may_change seat opening events words opened below addr e = (run_above seat opening events opened addr e, below addr e)

pub run_outer : RunsWriteOuter
run_outer seat opening events opened its = session_owes seat (session_run seat opening events) (session_run_outer seat (its_homes seat its) opening events opened)
