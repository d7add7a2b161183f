-- By which floors sessions go in a life, beside its log.
use Rattle.std.specs.Prelude.{◌≡◌, ◌≤◌, ℕ, true, List, slice_get, Some}
use Rattle.law_log.specs.Begins.{Live, LiveUpto}
use Rattle.law_log.specs.Ghosts.{Ghosts, Log}
use Rattle.law_commit.specs.Below.fkv_commit.Commit.{Commit}
use Rattle.law_commit.specs.Below.fkv_session.Sessions.{SessionState}
use Rattle.law_commit.specs.Below.law_local.Sessions.Known.{is_attempting}
use Rattle.law_commit.specs.Below.law_local.Tries.TryRows.{floor_in}
use Rattle.law_commit.specs.Below.fkv_world.Runs.{World, run}
use Rattle.law_commit.specs.Below.fkv_world.World.{Event, Now}
use Rattle.law_commit.specs.Below.law_refine.Events.GhostEvents.{life_ghosts}
use Rattle.law_commit.specs.Below.law_refine.Seen.Floors.{HaveFloorsUpto}
use Rattle.law_order.specs.Known.Begins.{begin_in, home_of_world}

-- All below an address is fixed, and the log does without its records there.
pub record DoesWithout (begin : ℕ) (home : ℕ → ℕ) (log : Log) : Type 0 where
  pub fixed : begin ≤ log.fixed
  pub live : Live begin home log

-- so it does in the versions up to one
pub record DoesWithoutUpto (version begin : ℕ) (home : ℕ → ℕ) (log : Log) : Type 0 where
  pub its : DoesWithout begin home log
  pub upto : LiveUpto version begin home log

-- Behind these events all below the begin is fixed, the log does without its records there, and no floor lies above it. The begin of the commit in hand may
-- lie further on. The log does without the records below that as well, now and in the versions up to the commit's.
pub record GoesByBegin (opening : World) (ghosts : Ghosts) (events : List Event) : Type 0 where
  pub fixed : begin_in (run opening events) ≤ (life_ghosts opening ghosts events).log.fixed
  pub live : Live (begin_in (run opening events)) (home_of_world opening) (life_ghosts opening ghosts events).log
  pub floors : HaveFloorsUpto (begin_in (run opening events)) (run opening events).now
  pub commit : (c : Commit) → (run opening events).now.keeper.commit ≡ Some c → DoesWithoutUpto c.number.0 c.begin.0 (home_of_world opening) (life_ghosts opening ghosts events).log

-- the floor of each attempt lies at or above this address
abbrev pub AttemptsGoFrom : ℕ → Now → Type 0
AttemptsGoFrom first n = (session : ℕ) (s : SessionState) → slice_get n.sessions session ≡ Some s → is_attempting s.step ≡ true → first ≤ floor_in s.attempt.pending.request
