-- What a session's point lies between: it never falls, neither as the life goes on nor from a version to a later one, and is no more than the session has given.
use Rattle.std.proofs.Common.{◌≡◌, ℕ, ◌+◌, ◌≤◌, List, [], ◌∷◌, ◌++◌, refl, arith, ap, Bool, true, false}
use Rattle.std.specs.Prelude.{Option, Some, None, nat_le, cond, slice_get}
use Rattle.std.proofs.lemmas.Bool.Decides.{nat_tests}
use Rattle.fkv_map.specs.declared.operations.Op.{Op}
use Rattle.law_refine.specs.Below.fkv_session.Sessions.{Seat, SessionState}
use Rattle.law_refine.specs.Below.fkv_session.SessionRun.{SessionEvent}
use Rattle.law_refine.specs.Below.fkv_session.Versions.{TakenAt, taken_at_after, versions_taken}
use Rattle.law_refine.specs.Below.fkv_world.Opened.{HasBecome}
use Rattle.law_refine.specs.Below.fkv_world.OwnEvents.{session_events}
use Rattle.law_refine.specs.Below.fkv_world.Runs.{World, run}
use Rattle.law_refine.specs.Below.fkv_world.World.{Event, seat_at}
use Rattle.law_refine.proofs.Below.fkv_world.Shown.{session_runs}
use Rattle.law_commit.specs.Accepted.{count_upto, point, versions_accepted, versions_of}
use Rattle.law_commit.specs.LastSerials.{serial_at, serial_of}
use Rattle.law_commit.specs.Points.{RisesByVersion, UpToGiven}
use Rattle.law_commit.proofs.Counted.{found_so, life_counted}
use Rattle.law_commit.proofs.OfVersions.Points.{count_low}

-- ---- from a version to a later one
one_count : (b c : Bool) (low high : ℕ) → (b ≡ true → c ≡ true) → low ≤ high → cond b (low + 1) low ≤ cond c (high + 1) high
one_count true true low high up less = omega (arith, less)
one_count true false low high up less = let clash : false ≡ true = up refl in cc
one_count false true low high up less = omega (arith, less)
one_count false false low high up less = less

later_too : (its version later : ℕ) → version ≤ later → nat_le its version ≡ true → nat_le its later ≡ true
later_too its version later up low = grind (arith, nat_tests, up, low)

pub counts_rise : (version later : ℕ) (versions : List ℕ) → version ≤ later → count_upto version versions ≤ count_upto later versions
counts_rise version later [] up = omega arith
counts_rise version later (its ∷ before) up = one_count (nat_le its version) (nat_le its later) (count_upto version before) (count_upto later before) (later_too its version later up) (counts_rise version later before up)

more : (first low high : ℕ) → low ≤ high → first + low ≤ first + high
more first low high up = omega (arith, up)

pub rises_by_version : RisesByVersion
rises_by_version opening events session version later up =
    more (serial_at opening.now session) (count_upto version (versions_accepted opening events session)) (count_upto later (versions_accepted opening events session)) (counts_rise version later (versions_accepted opening events session) up)

-- ---- as the life goes on
one_more : (b : Bool) (low : ℕ) → low ≤ cond b (low + 1) low
one_more true low = omega arith
one_more false low = omega arith

taken_more : (version : ℕ) (same : Bool) (serial at : ℕ) (op : Option Op) (taken : List TakenAt) → count_upto version (versions_of taken) ≤ count_upto version (versions_of (taken_at_after same serial at op taken))
taken_more version true serial at op taken = omega arith
taken_more version false serial at None taken = omega arith
taken_more version false serial at (Some op) taken = one_more (nat_le at version) (count_upto version (versions_of taken))

through : (low mid high : ℕ) → low ≤ mid → mid ≤ high → low ≤ high
through low mid high one other = omega (arith, one, other)

run_more : (version : ℕ) (k : Seat) (first : SessionState) (later own : List SessionEvent) → count_upto version (versions_of (versions_taken k first own)) ≤ count_upto version (versions_of (versions_taken k first (later ++ own)))
unfolding versions_taken
run_more version k first [] own = omega arith
run_more version k first (event ∷ later) own =
    through (count_upto version (versions_of (versions_taken k first own))) (count_upto version (versions_of (versions_taken k first (later ++ own)))) _ (run_more version k first later own)
    (taken_more version _ _ _ _ (versions_taken k first (later ++ own)))

pub event_rises : (opening : World) (event : Event) (before : List Event) (session version : ℕ) → point opening before session version ≤ point opening (event ∷ before) session version
unfolding session_events
event_rises opening event before session version = by_found (slice_get opening.now.sessions session) refl
  where
    by_found : (found : Option SessionState) → slice_get opening.now.sessions session ≡ found → point opening before session version ≤ point opening (event ∷ before) session version
    by_found None none = rw none (omega arith)
    by_found (Some first) found = rw (found_so opening before session first found, found_so opening (event ∷ before) session first found) (more (serial_at opening.now session) _ _ (run_more version (seat_at opening.now session) first _ (session_events opening session before)))

-- as a life begins a session's point of any version is its serial
pub point_opens : (opening : World) (session version : ℕ) → point opening [] session version ≡ serial_at opening.now session
unfolding session_events versions_taken
point_opens opening session version = by_found (slice_get opening.now.sessions session) refl
  where
    by_found : (found : Option SessionState) → slice_get opening.now.sessions session ≡ found → point opening [] session version ≡ serial_at opening.now session
    by_found None none = rw none refl
    by_found (Some first) found = rw found (omega arith)

-- ---- what it has given
pub point_given : (opening : World) (events : List Event) (session version : ℕ) (first its : SessionState) → HasBecome opening events session first its → point opening events session version ≤ its.serial
point_given opening events session version first its became =
    let counts = life_counted opening events session first its became in
    let low = count_low version (versions_accepted opening events session) in
    omega (arith, counts, low)

pub serial_now : (opening : World) (events : List Event) (session : ℕ) (its : SessionState) → slice_get (run opening events).now.sessions session ≡ Some its → serial_at (run opening events).now session ≡ its.serial
serial_now opening events session its found = ap serial_of found

pub up_to_given : UpToGiven
up_to_given opening start events session version opens = by_found (slice_get opening.now.sessions session) refl
  where
    by_found : (found : Option SessionState) → slice_get opening.now.sessions session ≡ found → point opening events session version ≤ serial_at (run opening events).now session
    by_found None none = rw none (omega arith)
    by_found (Some first) found =
        let now = session_runs opening session first events found in
        let low = point_given opening events session version first _ (record { opened = opens.opened; was = found; is_now = now }) in
        let same = serial_now opening events session _ now in
        omega (arith, low, same)
