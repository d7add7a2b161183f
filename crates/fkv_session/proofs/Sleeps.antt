-- The cut word of its version is told as a session leaves, and while it sleeps, but in a wake; and then its epoch word is 0.
use Rattle.std.proofs.Common.{◌≡◌, ℕ, List, refl, subst, false}
use Rattle.std.specs.Prelude.{◌≢◌}
use Rattle.fkv_session.specs.declared.sessions.CatchCause.TheVariants.{Refreshes, Wakes, Shifts}
use Rattle.fkv_session.specs.declared.sessions.Sitting.{Sitting}
use Rattle.fkv_session.specs.declared.sessions.Sitting.TheVariants.{Idle, CatchesUp, Leaves, LoadsDurable}
use Rattle.fkv_session.specs.Asleep.{IsStepAsleep}
use Rattle.fkv_session.specs.InOrder.{epoch_place}
use Rattle.fkv_session.specs.Sessions.{SessionState, Seat, IsOpened}
use Rattle.fkv_session.specs.SessionRun.{SessionEvent, session_run}
use Rattle.fkv_session.specs.Words.{stored_last, IsCutAsleep}
use Rattle.fkv_session.proofs.AsleepKept.{run_asleep}
use Rattle.fkv_session.proofs.Slept.{HasLeft, StepSlept, run_steps}

sleeps_so : (k : Seat) (words : ℕ → ℕ) (s : SessionState) (step : Sitting) → s.is_awake ≡ false → step ≢ CatchesUp Wakes → IsStepAsleep step → StepSlept k words s step → HasLeft k s words
sleeps_so k words s (Idle its) asleep other rests slept = slept asleep
sleeps_so k words s LoadsDurable asleep other rests slept = slept asleep
sleeps_so k words s (CatchesUp Wakes) asleep other rests slept = absurd (other refl)
sleeps_so k words s (CatchesUp Refreshes) asleep other rests slept = absurd rests
sleeps_so k words s (CatchesUp Shifts) asleep other rests slept = absurd rests
sleeps_so k words s step asleep other rests slept = absurd rests

run_left : (k : Seat) (opening : SessionState) (first : ℕ → ℕ) (events : List SessionEvent) → IsOpened opening → (session_run k opening events).is_awake ≡ false → (session_run k opening events).step ≢ CatchesUp Wakes
    → HasLeft k (session_run k opening events) (λ place. stored_last k opening first events place)
run_left k opening first events opened asleep other =
    let s : SessionState = session_run k opening events in
    sleeps_so k (λ place. stored_last k opening first events place) s s.step asleep other (run_asleep k opening events opened asleep).accepts_none (run_steps k opening first events opened)

pub run_sleeps : (k : Seat) (opening : SessionState) (first : ℕ → ℕ) (events : List SessionEvent) → IsOpened opening → (session_run k opening events).is_awake ≡ false → (session_run k opening events).step ≢ CatchesUp Wakes
    → IsCutAsleep k (session_run k opening events) (λ place. stored_last k opening first events place)
run_sleeps k opening first events opened asleep other = let left = run_left k opening first events opened asleep other in left.0

-- and it holds nobody up
pub run_unprotected : (k : Seat) (opening : SessionState) (first : ℕ → ℕ) (events : List SessionEvent) → IsOpened opening → (session_run k opening events).is_awake ≡ false → (session_run k opening events).step ≢ CatchesUp Wakes
    → stored_last k opening first events (epoch_place k) ≡ 0
run_unprotected k opening first events opened asleep other = let left = run_left k opening first events opened asleep other in left.1

pub run_leaves : (k : Seat) (opening : SessionState) (first : ℕ → ℕ) (events : List SessionEvent) → IsOpened opening → (session_run k opening events).step ≡ Leaves
    → IsCutAsleep k (session_run k opening events) (λ place. stored_last k opening first events place)
run_leaves k opening first events opened e =
    let s : SessionState = session_run k opening events in
    let words : ℕ → ℕ = λ place. stored_last k opening first events place in
    let left = subst (λ (x : Sitting). StepSlept k words s x) e (run_steps k opening first events opened) in
    left.0
