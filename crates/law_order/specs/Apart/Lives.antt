-- What the sessions of a life know of versions.
use Rattle.std.specs.Prelude.{◌≡◌, ℕ, false, List, Some, slice_get}
use Rattle.law_commit.specs.Below.fkv_session.Sessions.{SessionState}
use Rattle.law_commit.specs.Below.fkv_world.Runs.{World, run}
use Rattle.law_commit.specs.Below.fkv_world.OwnEvents.{session_events}
use Rattle.law_commit.specs.Below.fkv_world.World.{Event, seat_at}
use Rattle.law_apart.specs.Apart.Rows.{SessionApart}
use Rattle.law_commit.specs.PhaseVersions.{phase_version}
use Rattle.law_commit.specs.Quiet.{OpensQuiet}
use Rattle.law_commit.specs.Shares.Waiting.{has_shifted}
use Rattle.law_commit.specs.Versions.Cells.{CellsUpto}
use Rattle.law_log.specs.Ghosts.{Ghosts}
use Rattle.law_order.specs.Known.Begins.{BegunLife, home_of_world}
use Rattle.law_commit.specs.Below.law_refine.Latches.Shows as latches
use Rattle.law_commit.specs.Below.law_refine.Events.GhostEvents.{life_ghosts}

-- no attempt of a life ends as a shift and isn't made again
abbrev pub NoneHasShifted : World → List Event → Type 0
NoneHasShifted opening events =
    (session : ℕ) (first : SessionState) → slice_get opening.now.sessions session ≡ Some first → has_shifted (seat_at opening.now session) first (session_events opening session events) ≡ false

-- each session keeps its updates apart from those of other versions, and none of its attempts has shifted for good
pub record KeepsApart (opening : World) (ghosts : Ghosts) (events : List Event) (s : SessionState) : Type 0 where
  pub rows : SessionApart (home_of_world opening) (run opening events).now.places (life_ghosts opening ghosts events).log s
  pub none : NoneHasShifted opening events

abbrev pub AllApartBehind : World → Ghosts → List Event → Type 0
AllApartBehind opening ghosts events = (session : ℕ) (s : SessionState) → slice_get (run opening events).now.sessions session ≡ Some s → KeepsApart opening ghosts events s

-- What a life begins with besides: its sessions have seen that it rests, no latch is held, and no record of its log is of a later version than its phase
-- word's.
pub record OpensApart (life : BegunLife) : Type 0 where
  pub quiet : OpensQuiet life.opening life.start
  pub latches : latches.IsOpened life.opening.now
  pub upto : CellsUpto (phase_version life.opening.now.words) life.ghosts.log
