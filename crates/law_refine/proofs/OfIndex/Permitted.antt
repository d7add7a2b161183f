-- Each step of a life that begins as a store was opened spares the index.
use Rattle.std.proofs.Common.{◌≡◌, ℕ, ◌<◌, refl, arith, List, [], ◌∷◌}
use Rattle.std.specs.Prelude.{Option, Some, None, slice_get}
use Rattle.fkv_index.proofs.Shown.{homes_are_there}
use Rattle.law_world.specs.Below.fkv_keeper.Keeping.{keeper_ask}
use Rattle.law_world.specs.Below.fkv_session.Sessions.{SessionState, Seat, session_ask}
use Rattle.law_world.specs.Below.fkv_session.SessionRun.{session_run}
use Rattle.law_world.specs.Below.fkv_world.OwnEvents.{session_events}
use Rattle.law_world.specs.Below.fkv_world.Runs.{World, run}
use Rattle.law_world.specs.Below.fkv_world.World.{Event, Calls, Moves, Commits, Turns, KeeperMoves, Crashes, Now, seat_at}
use Rattle.law_refine.specs.Index.Shows.{SparesIndex, SessionSpares, IsPermitted, ArePermitted, IsOpened}
use Rattle.law_refine.proofs.OfIndex.Leaves.{leaves_spares}
use Rattle.law_refine.proofs.OfIndex.SessionParts.{Homes, SittingKnows, run_knows}
use Rattle.law_refine.specs.Footprint.{TheIndex}
use Rattle.law_refine.proofs.Items.{there_low}
use Rattle.law_refine.proofs.Footprint.Lives.{at_each_moment, keeper_spares}
use Rattle.law_refine.proofs.Footprint.Sessions.{IsSessionSparing, SessionRests, session_asks_spares, session_run_spares}

-- what a session knows at each moment of its own run
record Ran (k : Seat) (s : SessionState) : Type 0 where
  there : k.number < k.places.sessions
  knows : SittingKnows k.places s s.step
  spared : IsSessionSparing k.places s

has_run : (opening : World) (lists : ℕ → List ℕ) (events : List Event) (i : ℕ) (first : SessionState) → IsOpened opening lists → slice_get opening.now.sessions i ≡ Some first
    → Ran (seat_at opening.now i) (session_run (seat_at opening.now i) first (session_events opening i events))
has_run opening lists events i first opened was =
    let its = opened.sessions i first was in
    let seats = opened.seats in
    let low = there_low opening.now.sessions i first was in
    let homes : Homes (seat_at opening.now i) = λ key. homes_are_there opening.now.places opening.now.shape.bucket_bits key opened.buckets in
    record {
      there = omega (arith, low, seats);
      knows = run_knows (seat_at opening.now i) first (session_events opening i events) homes its;
      spared = session_run_spares (seat_at opening.now i) first (session_events opening i events) its;
    }

session_spares : (opening : World) (lists : ℕ → List ℕ) (events : List Event) (i : ℕ) (found : Option SessionState) → IsOpened opening lists → slice_get (run opening events).now.sessions i ≡ found → SessionSpares (run opening events).now i found
session_spares opening lists events i None opened is = tt
session_spares opening lists events i (Some s) opened is = λ search entry.
    let n : Now = (run opening events).now in
    let its : Ran (seat_at n i) s = at_each_moment Ran opening events i s (λ first was. has_run opening lists events i first opened was) is in
    let rests : SessionRests TheIndex (seat_at n i) s = record { knows = λ e. its.knows; search = λ e. search; entry = λ e. entry; latch = λ e. cc; mail = λ e. cc; marks = λ e. cc; phase = λ e. cc } in
    leaves_spares n.places n.words (session_ask (seat_at n i) s) (session_asks_spares TheIndex (seat_at n i) s its.there its.spared rests)

-- so is the keeper
keeper_spared : (opening : World) (lists : ℕ → List ℕ) (events : List Event) → IsOpened opening lists
    → SparesIndex (run opening events).now.places (run opening events).now.words (keeper_ask (run opening events).now.shape (run opening events).now.places (run opening events).now.keeper)
keeper_spared opening lists events opened =
    let n : Now = (run opening events).now in
    let served = opened.served in
    let finished = opened.finished in
    leaves_spares n.places n.words (keeper_ask n.shape n.places n.keeper) (keeper_spares TheIndex opening events (λ e. cc) opened.keeper (omega (arith, served)) (omega (arith, served, finished)) (λ session e. cc) (λ finishes session e. cc))

is_permitted : (opening : World) (lists : ℕ → List ℕ) (before : List Event) (event : Event) → IsOpened opening lists → IsPermitted (run opening before).now event
is_permitted opening lists before (Moves i) opened = session_spares opening lists before i (slice_get (run opening before).now.sessions i) opened refl
is_permitted opening lists before (KeeperMoves granted done) opened = keeper_spared opening lists before opened
is_permitted opening lists before (Calls i call) opened = tt
is_permitted opening lists before (Commits kind) opened = tt
is_permitted opening lists before Turns opened = tt
is_permitted opening lists before Crashes opened = tt

-- every life
pub are_permitted : (opening : World) (lists : ℕ → List ℕ) (events : List Event) → IsOpened opening lists → ArePermitted opening events
are_permitted opening lists [] opened = tt
are_permitted opening lists (event ∷ before) opened = (is_permitted opening lists before event opened, are_permitted opening lists before opened)
