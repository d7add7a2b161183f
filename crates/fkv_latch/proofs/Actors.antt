-- What stands for each actor at every moment.
use Rattle.std.proofs.Common.{◌≡◌, ℕ, ◌+◌, ◌<◌, ◌≤◌, List, ◌∷◌, length, refl, arith, Bool, true, false}
use Rattle.std.specs.Prelude.{◌==◌, ◌&&◌, nat_lt, nat_le, if◌then◌else◌, ⊤}
use Rattle.std.proofs.lemmas.Bool.Decides.{nat_tests}
use Rattle.fkv_base.specs.Limits.{max_sessions, max_pending}
use Rattle.fkv_plane.specs.declared.asks.Ask.TheVariants.{Done}
use Rattle.fkv_plane.specs.declared.places.Places.{Places}
use Rattle.fkv_latch.specs.declared.latching.LatchAnswer.TheVariants.{Taken, Busy}
use Rattle.fkv_latch.specs.declared.latching.LatchTask.{LatchTask}
use Rattle.fkv_latch.specs.declared.latching.LatchTask.TheVariants.{TakeShared, DropShared, TakeExclusive, DropExclusive}
use Rattle.fkv_latch.specs.declared.latching.Latching.{Latching}
use Rattle.fkv_latch.specs.declared.latching.Latching.TheVariants.{AtRest, AddsShare, GivesBack, DropsShare, LoadsWord, SetsExclusive, DropsExclusive}
use Rattle.fkv_latch.specs.Latching.{one_share, is_exclusive, is_free, latch_ask, latch_next, latch_next_ask}
use Rattle.fkv_latch.specs.LatchWorld.{LatchActor, has_latch, times, is_at_rest, may_do, may_begin, begun_by, given, replied}
use Rattle.fkv_latch.proofs.Counts.{Here, There, meets, without_times, without_length}

-- how many shares an actor is about to take or to take off
abbrev pub in_hand : Latching → ℕ
in_hand (AddsShare place) = 1
in_hand (GivesBack place) = 1
in_hand (DropsShare place) = 1
in_hand step = 0

-- the machine works on a latch, and has found it free where it is about to take it alone
abbrev pub WorksOnLatch : Places → Latching → Type 0
WorksOnLatch p AtRest = ⊤
WorksOnLatch p (AddsShare place) = has_latch p place ≡ true
WorksOnLatch p (GivesBack place) = has_latch p place ≡ true
WorksOnLatch p (DropsShare place) = has_latch p place ≡ true
WorksOnLatch p (LoadsWord place) = has_latch p place ≡ true
WorksOnLatch p (SetsExclusive place word) = (has_latch p place ≡ true) × (word < one_share)
WorksOnLatch p (DropsExclusive place) = has_latch p place ≡ true

pub record IsActor (p : Places) (actor : ℕ) (a : LatchActor) : Type 0 where
  pub few : length a.shared + in_hand a.step ≤ max_pending + 1
  pub session : 0 < length a.shared + in_hand a.step → actor < max_sessions
  pub of_latches : (place : ℕ) → 0 < times place a.shared + times place a.exclusive → has_latch p place ≡ true
  pub works : WorksOnLatch p a.step

abbrev pub actor_of : Latching → List ℕ → List ℕ → LatchActor
actor_of step shared exclusive = record { step = step; shared = shared; exclusive = exclusive }

-- one more place that has a latch
more_latches : (p : Places) (q place others : ℕ) (xs : List ℕ) → has_latch p q ≡ true → (0 < times place xs + others → has_latch p place ≡ true) → 0 < times place (q ∷ xs) + others → has_latch p place ≡ true
more_latches p q place others xs has h some = elim (meets place q) [
  | Here same one ↦ rw same has
  | There other none ↦ h (omega (arith, some, none))
]

-- the reply to its ask
pub actor_replied : (p : Places) (actor reply : ℕ) (step : Latching) (shared exclusive : List ℕ) → IsActor p actor (actor_of step shared exclusive) → IsActor p actor (replied (actor_of step shared exclusive) reply)
unfolding latch_ask latch_next latch_next_ask
actor_replied p actor reply AtRest shared exclusive is = is
actor_replied p actor reply (AddsShare q) shared exclusive is = tested (is_exclusive reply)
  where
    tested : (b : Bool) → IsActor p actor (given (AddsShare q) (if b then latch_ask (GivesBack q) else Done Taken) (actor_of (if b then GivesBack q else AtRest) shared exclusive))
    tested true = record { few = is.few; session = is.session; of_latches = is.of_latches; works = is.works }
    tested false = record {
      few = omega (arith, is.few);
      session = λ some. is.session (omega arith);
      of_latches = λ place some. more_latches p q place (times place exclusive) shared is.works (is.of_latches place) some;
      works = tt;
    }
actor_replied p actor reply (GivesBack q) shared exclusive is = record { few = omega (arith, is.few); session = λ some. is.session (omega arith); of_latches = is.of_latches; works = tt }
actor_replied p actor reply (DropsShare q) shared exclusive is = record { few = omega (arith, is.few); session = λ some. is.session (omega arith); of_latches = is.of_latches; works = tt }
actor_replied p actor reply (LoadsWord q) shared exclusive is = tested (is_free reply) refl
  where
    tested : (b : Bool) → is_free reply ≡ b → IsActor p actor (given (LoadsWord q) (if b then latch_ask (SetsExclusive q reply) else Done Busy) (actor_of (if b then SetsExclusive q reply else AtRest) shared exclusive))
    tested true e = record { few = is.few; session = is.session; of_latches = is.of_latches; works = (is.works, grind (arith, nat_tests, e)) }
    tested false e = record { few = is.few; session = is.session; of_latches = is.of_latches; works = tt }
actor_replied p actor reply (SetsExclusive q word) shared exclusive is = tested (reply == word)
  where
    tested : (b : Bool) → IsActor p actor (given (SetsExclusive q word) (Done (if b then Taken else Busy)) (actor_of AtRest shared exclusive))
    tested true = record {
      few = is.few;
      session = is.session;
      of_latches = λ place some. more_latches p q place (times place shared) exclusive is.works.0 (λ few. is.of_latches place (omega (arith, few))) (omega (arith, some));
      works = tt;
    }
    tested false = record { few = is.few; session = is.session; of_latches = is.of_latches; works = tt }
actor_replied p actor reply (DropsExclusive q) shared exclusive is = record { few = is.few; session = is.session; of_latches = is.of_latches; works = tt }

pub both : (a b : Bool) → (a && b) ≡ true → (a ≡ true) × (b ≡ true)
both true b e = (refl, e)
both false b e = cc

-- a task is begun at rest, at a latch, and where it may be
pub record Begins (p : Places) (actor : ℕ) (task : LatchTask) (place : ℕ) (a : LatchActor) : Type 0 where
  pub rests : a.step ≡ AtRest
  pub latch : has_latch p place ≡ true
  pub may : may_do actor task place a ≡ true

rests_then : (step : Latching) → is_at_rest step ≡ true → step ≡ AtRest
rests_then AtRest e = refl
rests_then (AddsShare place) e = cc
rests_then (GivesBack place) e = cc
rests_then (DropsShare place) e = cc
rests_then (LoadsWord place) e = cc
rests_then (SetsExclusive place word) e = cc
rests_then (DropsExclusive place) e = cc

pub begins_then : (p : Places) (actor : ℕ) (task : LatchTask) (place : ℕ) (a : LatchActor) → may_begin p actor task place a ≡ true → Begins p actor task place a
begins_then p actor task place a e =
    let first = both (is_at_rest a.step && has_latch p place) (may_do actor task place a) e in
    let second = both (is_at_rest a.step) (has_latch p place) first.0 in
    record { rests = rests_then a.step second.0; latch = second.1; may = first.1 }

pub actor_begun : (p : Places) (actor place : ℕ) (task : LatchTask) (shared exclusive : List ℕ) → has_latch p place ≡ true → may_do actor task place (actor_of AtRest shared exclusive) ≡ true
    → IsActor p actor (actor_of AtRest shared exclusive) → IsActor p actor (begun_by task place (actor_of AtRest shared exclusive))
actor_begun p actor place TakeShared shared exclusive has may is =
    let its = both (nat_lt actor max_sessions) (nat_le (length shared) max_pending) may in
    let first = its.0 in
    let second = its.1 in
    let low : actor < max_sessions = grind (arith, nat_tests, first) in
    let few : length shared ≤ max_pending = grind (arith, nat_tests, second) in
    record { few = omega (arith, few); session = λ some. low; of_latches = is.of_latches; works = has }
actor_begun p actor place DropShared shared exclusive has may is =
    let some : 0 < times place shared = grind (arith, nat_tests, may) in
    let shorter = without_length place shared some in
    record {
      few = omega (arith, is.few, shorter);
      session = λ more. is.session (omega (arith, shorter));
      of_latches = λ at more. let fewer = without_times at place shared some in is.of_latches at (omega (arith, more, fewer));
      works = has;
    }
actor_begun p actor place TakeExclusive shared exclusive has may is = record { few = is.few; session = is.session; of_latches = is.of_latches; works = has }
actor_begun p actor place DropExclusive shared exclusive has may is =
    let some : 0 < times place exclusive = grind (arith, nat_tests, may) in
    record {
      few = is.few;
      session = is.session;
      of_latches = λ at more. let fewer = without_times at place exclusive some in is.of_latches at (omega (arith, more, fewer));
      works = has;
    }
