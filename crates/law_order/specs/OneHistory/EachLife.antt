-- The lives of which the order law speaks, and the law of prefixes.
use Rattle.std.specs.Prelude.{◌≡◌, ◌≤◌, ◌++◌, ℕ, List}
use Rattle.law_opening.specs.Below.fkv_core.Openings.{IsOpeningWorld, beginning}
use Rattle.law_opening.specs.Below.fkv_opening.Opened.{IsStoreOf}
use Rattle.law_opening.specs.Below.fkv_opening.TheOpened.{Opened}
use Rattle.law_commit.specs.Below.fkv_world.World.{Event, Now}
use Rattle.law_commit.specs.Below.law_refine.Events.GhostEvents.{home_in}
use Rattle.law_commit.specs.Versions.Laws.{version_now}
use Rattle.law_commit.specs.BegunCommits.{BegunCommit}
use Rattle.law_log.specs.Begins.{Live, LiveUpto}
use Rattle.law_log.specs.Ghosts.{Log}
use Rattle.law_log.specs.Trace.{IsIn}
use Rattle.law_opening.specs.Log.Lives.{ghosts_beside}
use Rattle.law_order.specs.Decided.Cut.{log_beside}
use Rattle.law_order.specs.Images.Named.{begun_so_far}
use Rattle.law_order.specs.Served.Fits.{CallsFit}
use Rattle.law_order.specs.Tickets.Few.{HasFewCalls}

-- a life: the bytes with which it begins, the store that they hold, the world that this opens with, and its events, the newest first
pub record Life : Type 0 where
  pub bytes : List ℕ
  pub opened : Opened
  pub world : Now
  pub events : List Event

-- It is one of an opened store: of any events of its sessions, its keeper and its device, wherever a crash ends it. Its calls are of numbers below 2^64, as
-- all that a program can make are. Fewer than 2^64 - 1 calls of sessions begin in it, so no ticket comes again.
pub record IsLife (its : Life) : Type 0 where
  pub store : IsStoreOf its.bytes its.opened
  pub begins : IsOpeningWorld its.opened its.world
  pub fits : CallsFit its.events
  pub few : HasFewCalls its.events

-- so it is in each life
abbrev pub InEachLife : (Opened → Now → List ℕ → List Event → Type 0) → Type 0
InEachLife P = (its : Life) → IsLife its → P its.opened its.world its.bytes its.events

-- The log beside the life does without its records below the begin that the store was opened with. So it does in the versions up to each one.
pub record IsLive (o : Opened) (n : Now) (bytes : List ℕ) (events : List Event) : Type 0 where
  pub now : (let beside = ghosts_beside o n bytes events in Live o.begin.0 (home_in n.shape.bucket_bits) beside.log)
  pub upto : (version : ℕ) → (let beside = ghosts_beside o n bytes events in LiveUpto version o.begin.0 (home_in n.shape.bucket_bits) beside.log)

-- And it does without the records below where the log of a commit that has begun begins, in the versions up to the commit's.
abbrev pub CommitsAreLive : Opened → Now → List ℕ → List Event → Type 0
CommitsAreLive o n bytes events = (c : BegunCommit) → IsIn c (begun_so_far n bytes events) → LiveUpto c.number.0 c.parts.begin.0 (home_in n.shape.bucket_bits) (log_beside o n bytes events)

-- ---- and of any other address at which the log may come to begin
-- Behind these events all below the address is fixed: it lies at or below the safe read-only offset.
abbrev pub HasFixed : Opened → Now → List ℕ → List Event → ℕ → Type 0
HasFixed o n bytes events begin = (let log = log_beside o n bytes events in begin ≤ log.fixed)

-- What is so of an address behind the earlier events of a life, with all below it fixed, is so behind all its events.
abbrev pub GoesOn : (ℕ → (ℕ → ℕ) → Log → Type 0) → Opened → Now → List ℕ → List Event → Type 0
GoesOn P o n bytes events =
    (begin : ℕ) (later before : List Event) → events ≡ later ++ before → HasFixed o n bytes before begin
    → P begin (home_in n.shape.bucket_bits) (log_beside o n bytes before) → P begin (home_in n.shape.bucket_bits) (log_beside o n bytes events)

-- A log that does without its records below an address does so from then on. So it is in the versions up to each one. And from then on it does without them in
-- the versions up to the phase word's of that moment, and up to each later one.
pub record StaysLive (o : Opened) (n : Now) (bytes : List ℕ) (events : List Event) : Type 0 where
  pub now : GoesOn Live o n bytes events
  pub upto : (version : ℕ) → GoesOn (LiveUpto version) o n bytes events
  pub gives_upto : (version begin : ℕ) (later before : List Event) → events ≡ later ++ before → HasFixed o n bytes before begin → version_now (beginning n bytes) before ≤ version
      → Live begin (home_in n.shape.bucket_bits) (log_beside o n bytes before) → LiveUpto version begin (home_in n.shape.bucket_bits) (log_beside o n bytes events)
