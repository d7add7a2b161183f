-- What a session attempts at a moment of a life: by what it has seen, and with what it is asked for.
use Rattle.std.proofs.Common.{◌≡◌, ℕ, List, sym, subst, true}
use Rattle.std.specs.Prelude.{Some, slice_get}
use Rattle.law_commit.specs.Below.fkv_session.Sitting.{Sitting}
use Rattle.law_commit.specs.Below.fkv_session.Sitting.TheVariants.{Attempts, Polls}
use Rattle.law_commit.specs.Below.fkv_session.Sessions.{SessionState, Seat}
use Rattle.law_commit.specs.Below.law_local.Sessions.Inputs.{AttemptsBy, AttemptsSo}
use Rattle.law_commit.specs.Below.law_local.Sessions.Known.{is_attempting}
use Rattle.law_commit.specs.Below.fkv_world.Opened.{IsOpenedWorld}
use Rattle.law_commit.specs.Below.fkv_world.Runs.{World, run}
use Rattle.law_commit.specs.Below.fkv_world.World.{Event, seat_at}
use Rattle.law_commit.proofs.Below.fkv_world.Shown.{same_seat}
use Rattle.law_commit.specs.Below.law_world.Guarded.Shows.{IsOpened}
use Rattle.law_opening.proofs.OfChanges.OfSessions.Attempting.{life_attempts}

-- ---- by what it attempts
seen_by : (k : Seat) (s : SessionState) (step : Sitting) → is_attempting step ≡ true → AttemptsBy k s step → s.attempt.seen ≡ s.seen
seen_by k s (Attempts has_shifted) attempts so = so.goes.its_seen
seen_by k s (Polls index) attempts so = so.goes.its_seen
seen_by k s step attempts so = cc

-- ---- at every moment of a life
life_so : (opening : World) (events : List Event) (session : ℕ) (s : SessionState) → IsOpenedWorld opening → slice_get (run opening events).now.sessions session ≡ Some s
    → AttemptsSo (seat_at (run opening events).now session) s
life_so opening events session s world found = subst (λ (x : Seat). AttemptsSo x s) (sym (same_seat opening events session)) (life_attempts opening events session s world found)

-- so an attempt goes by what its session has seen
pub life_seen : (opening : World) (start : ℕ) (events : List Event) (session : ℕ) (s : SessionState) → IsOpenedWorld opening → IsOpened opening.now start → slice_get (run opening events).now.sessions session ≡ Some s
    → is_attempting s.step ≡ true → s.attempt.seen ≡ s.seen
life_seen opening start events session s world opened found attempts = seen_by (seat_at (run opening events).now session) s s.step attempts (life_so opening events session s world found)
