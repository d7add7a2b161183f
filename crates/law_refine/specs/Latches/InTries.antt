-- What a session shares of a latch, by its control state: what its requests share, and in a call what the call's own request does.
use Rattle.std.specs.Prelude.{ℕ, ◌+◌, ◌<◌, ◌≡◌, ◌==◌, if◌then◌else◌, true, List, Some, slice_get}
use Rattle.std.specs.List.{remove}
use Rattle.fkv_words.specs.Fields.{bit_of}
use Rattle.fkv_latch.specs.declared.latching.Latching.{Latching}
use Rattle.fkv_latch.specs.declared.latching.Latching.TheVariants.{GivesBack}
use Rattle.fkv_latch.specs.LatchWorld.{LatchActor, LatchWorld, has_latch, times}
use Rattle.fkv_latch.specs.Latched.{shares_of}
use Rattle.law_world.specs.Below.fkv_ops.TheTrying.{Trying}
use Rattle.law_world.specs.Below.fkv_ops.TheTrying.TheVariants.{TakesShared, DropsShared}
use Rattle.law_world.specs.Below.fkv_ops.Trying.{TryState}
use Rattle.law_world.specs.Below.fkv_pending.TheAttempting.{Attempting}
use Rattle.law_world.specs.Below.fkv_pending.TheAttempting.TheVariants.{Tries}
use Rattle.law_world.specs.Below.fkv_pending.Attempting.{AttemptState}
use Rattle.law_world.specs.Below.fkv_session.Catching.{Catching}
use Rattle.law_world.specs.Below.fkv_session.Catching.TheVariants.{Latches}
use Rattle.law_world.specs.Below.fkv_session.Sitting.{Sitting}
use Rattle.law_world.specs.Below.fkv_session.Sitting.TheVariants.{Attempts, CatchesUp, Polls}
use Rattle.law_world.specs.Below.fkv_session.CatchingUp.{CatchState}
use Rattle.law_world.specs.Below.fkv_session.Sessions.{SessionState, Seat, bits_of}
use Rattle.law_world.specs.Below.fkv_session.Shares.{latch_of, sharing}
use Rattle.law_world.specs.Below.fkv_world.World.{Event, Now, seat_at}
use Rattle.law_world.specs.Below.fkv_world.Runs.{World, run}
use Rattle.law_refine.specs.Latches.Latchers.{session_alone}
use Rattle.law_refine.specs.Latches.Shows.{IsOpened, seen_by_latches}

-- a share that has met bit 63 is counted until it is given back
abbrev pub met_share : Latching → ℕ
met_share (GivesBack place) = 1
met_share step = 0

-- a try's own share, and one that it gives back or drops
abbrev pub try_shares : TryState → Trying → ℕ
try_shares t TakesShared = bit_of t.has_shared + met_share t.latching
try_shares t (DropsShared its) = bit_of t.has_shared + 1
try_shares t step = bit_of t.has_shared

-- but for a try it is what the request shares
abbrev pub attempt_shares : AttemptState → Attempting → ℕ
attempt_shares a Tries = try_shares a.trial a.trial.step
attempt_shares a step = bit_of a.pending.request.has_latch

-- at the latch of its key's bucket
abbrev pub own_shares : Seat → ℕ → AttemptState → ℕ
own_shares k place a = if latch_of k.places (bits_of k) a.pending.request.op == place then attempt_shares a a.step else 0

-- a session that takes up a phase gives back what has met bit 63
abbrev pub met_at : ℕ → Latching → ℕ
met_at place (GivesBack at) = bit_of (at == place)
met_at place step = 0

abbrev pub caught_shares : ℕ → CatchState → Catching → ℕ
caught_shares place c (Latches index) = met_at place c.latching
caught_shares place c step = 0

-- of a session: in a poll the request that is attempted counts by its attempt
abbrev pub session_shares : Seat → ℕ → SessionState → Sitting → ℕ
session_shares k place s (Attempts has_shifted) = sharing k place s.requests + own_shares k place s.attempt
session_shares k place s (Polls index) = sharing k place (remove s.requests index) + own_shares k place s.attempt
session_shares k place s (CatchesUp cause) = sharing k place s.requests + caught_shares place s.catching s.catching.step
session_shares k place s step = sharing k place s.requests

-- ---- of these it holds all but what is dropped or given back
abbrev pub attempt_held : AttemptState → Attempting → ℕ
attempt_held a Tries = bit_of a.trial.has_shared
attempt_held a step = bit_of a.pending.request.has_latch

abbrev pub own_held : Seat → ℕ → AttemptState → ℕ
own_held k place a = if latch_of k.places (bits_of k) a.pending.request.op == place then attempt_held a a.step else 0

abbrev pub session_held : Seat → ℕ → SessionState → Sitting → ℕ
session_held k place s (Attempts has_shifted) = sharing k place s.requests + own_held k place s.attempt
session_held k place s (Polls index) = sharing k place (remove s.requests index) + own_held k place s.attempt
session_held k place s step = sharing k place s.requests

-- The session's actor has just these shares in the word of each latch.
pub record HasItsShares (n : Now) (w : LatchWorld) (session : ℕ) (s : SessionState) : Type 0 where
  pub actor : LatchActor
  pub got : slice_get w.actors session ≡ Some actor
  pub shares : (place : ℕ) → has_latch n.places place ≡ true → shares_of place actor ≡ session_shares (seat_at n session) place s s.step
  pub held : (place : ℕ) → has_latch n.places place ≡ true → times place actor.shared ≡ session_held (seat_at n session) place s s.step

-- so it is in each life
abbrev pub ShareInTries : Type 0
ShareInTries =
    (opening : World) (events : List Event) (session : ℕ) (s : SessionState) → IsOpened opening.now → slice_get (run opening events).now.sessions session ≡ Some s
    → HasItsShares (run opening events).now (seen_by_latches opening events) session s

-- and where one holds a latch alone, nobody holds a share of it
abbrev pub StandsBesideNone : Type 0
StandsBesideNone =
    (opening : World) (events : List Event) (place i j : ℕ) (s t : SessionState) → IsOpened opening.now → slice_get (run opening events).now.sessions i ≡ Some s → slice_get (run opening events).now.sessions j ≡ Some t
    → 0 < times place (session_alone (run opening events).now.places s) → session_held (seat_at (run opening events).now j) place t t.step ≡ 0
