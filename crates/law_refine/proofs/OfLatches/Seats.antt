-- A session and the actor that is its: through the session's own step, what goes with it, and the task that begins then.
use Rattle.std.proofs.Common.{◌≡◌, ℕ, zero, suc, ◌+◌, ◌-◌, ◌%◌, ◌^◌, ◌<◌, ◌≤◌, ◌∙◌, refl, sym, ap, subst, arith, List, [], ◌∷◌, length, Bool, true, false}
use Rattle.std.specs.Prelude.{◌==◌, ◌&&◌, nat_lt, nat_le, Some, slice_get, slice_set}
use Rattle.std.proofs.lemmas.Bool.Decides.{nat_tests}
use Rattle.fkv_base.specs.Limits.{max_sessions, max_pending}
use Rattle.fkv_words.specs.Fields.{bit_of}
use Rattle.fkv_plane.specs.declared.actions.Action.{Action}
use Rattle.fkv_plane.specs.declared.asks.Ask.{Ask}
use Rattle.fkv_plane.specs.declared.asks.Ask.TheVariants.{Add, Put, Done}
use Rattle.fkv_plane.specs.declared.places.Places.{Places}
use Rattle.fkv_plane.specs.Places.{bucket_place}
use Rattle.fkv_plane.specs.Passing.{passed}
use Rattle.fkv_latch.specs.declared.latching.LatchAnswer.{LatchAnswer}
use Rattle.fkv_latch.specs.declared.latching.LatchAnswer.TheVariants.{Taken}
use Rattle.fkv_latch.specs.declared.latching.LatchTask.{LatchTask}
use Rattle.fkv_latch.specs.declared.latching.LatchTask.TheVariants.{TakeShared, DropShared, TakeExclusive, DropExclusive}
use Rattle.fkv_latch.specs.declared.latching.Latching.{Latching}
use Rattle.fkv_latch.specs.declared.latching.Latching.TheVariants as latching
use Rattle.fkv_latch.specs.Latching.{one_share, latch_first, latch_ask, latch_next, latch_next_ask}
use Rattle.fkv_latch.specs.LatchWorld.{Begins, LatchActor, LatchWorld, has_latch, times, is_at_rest, may_do, may_begin, begun_by, given, replied, latch_run}
use Rattle.fkv_latch.specs.Latched.{shares_of}
use Rattle.fkv_latch.proofs.Shown.{IsActor, IsSound, begins}
use Rattle.law_world.specs.Below.fkv_session.Told.{Told}
use Rattle.law_world.specs.Below.fkv_session.Told.TheVariants as told
use Rattle.law_world.specs.Below.fkv_session.Sessions.{SessionState, Seat, IsOpened, bits_of, session_ask, session_next, session_given}
use Rattle.law_world.specs.Below.fkv_session.SessionRun.{SessionEvent, Replies, Gets, session_happens, session_run}
use Rattle.law_world.specs.Below.fkv_session.Shares.{added_by, times_added, shares_added, shares_dropped, HasItsBuckets}
use Rattle.law_world.proofs.Below.fkv_session.Shown.{Book, StepShares, run_shares, run_room}
use Rattle.law_world.proofs.OfGuardSessions.AttemptsOuter.{HomesAreLow}
use Rattle.law_refine.specs.Latches.Latchers.{session_latching, session_alone}
use Rattle.law_refine.specs.Latches.LatchEvents.{begun_at}
use Rattle.law_refine.specs.Latches.Shows.{SparesLatches}
use Rattle.law_refine.proofs.OfLatches.TryLatches.{alone_left, alone_given, is_first, HasHeld}
use Rattle.law_refine.proofs.OfLatches.AttemptLatches.{FitsAt, KeepsAt, StartsAt}
use Rattle.law_refine.proofs.OfLatches.Counts.{actor_of, replied_shares, begun_shares, no_longer, shared_by, shared_times, shared_few}
use Rattle.law_refine.proofs.OfLatches.Needs.{drops, takes}
use Rattle.law_refine.proofs.OfLatches.SessionLatches.{SittingKnows, session_led, given_led, session_asks}

-- how the session came here, and that its actor has the shares that it has added and not taken off
pub record Came (k : Seat) (s : SessionState) (a : LatchActor) : Type 0 where
  pub its : HasItsBuckets k
  pub opening : SessionState
  pub events : List SessionEvent
  pub opened : IsOpened opening
  pub same : s ≡ session_run k opening events
  pub counts : (at : ℕ) → has_latch k.places at ≡ true → shares_added k opening events at ≡ shares_dropped k opening events at + shares_of at a

-- behind the session's step, where a task is yet to begin
pub record Stands (k : Seat) (s : SessionState) (a : LatchActor) : Type 0 where
  pub knows : SittingKnows k.places s s.step
  pub fits : FitsAt k.places a.step a.exclusive (session_latching s) (session_alone k.places s)
  pub came : Came k s a

-- between events
pub record Sits (k : Seat) (s : SessionState) (a : LatchActor) : Type 0 where
  pub knows : SittingKnows k.places s s.step
  pub step : a.step ≡ session_latching s
  pub alone : a.exclusive ≡ session_alone k.places s
  pub came : Came k s a

given_step : (step : Latching) (ask : Ask LatchAnswer) (a : LatchActor) → (given step ask a).step ≡ a.step
given_step (latching.AddsShare q) (Done Taken) a = refl
given_step (latching.SetsExclusive q word) (Done Taken) a = refl
given_step step ask a = refl

given_alone : (step : Latching) (ask : Ask LatchAnswer) (a : LatchActor) → (given step ask a).exclusive ≡ alone_given step ask a.exclusive
given_alone (latching.AddsShare q) (Done Taken) a = refl
given_alone (latching.SetsExclusive q word) (Done Taken) a = refl
given_alone step ask a = refl

-- an actor at rest stays as it is
pub rests_on : (a : LatchActor) (reply : ℕ) → a.step ≡ latching.AtRest → replied a reply ≡ a
unfolding latch_next latch_next_ask
rests_on a reply e = subst (λ x. replied (actor_of x a.shared a.exclusive) reply ≡ actor_of x a.shared a.exclusive) (sym e) (at_rest a.shared a.exclusive)
  where
    at_rest : (shared exclusive : List ℕ) → replied (actor_of latching.AtRest shared exclusive) reply ≡ actor_of latching.AtRest shared exclusive
    at_rest shared exclusive = refl

-- what spares latches adds nothing there
spared_word : (p : Places) (place at k number : ℕ) → has_latch p place ≡ false → has_latch p at ≡ true → bit_of (k == number && place == at) ≡ 0
spared_word p place at k number none has = by_test (k == number) (place == at) refl
  where
    by_test : (b c : Bool) → (place == at) ≡ c → bit_of (b && c) ≡ 0
    by_test true true e = let same : place ≡ at = grind (arith, nat_tests, e) in let clash : true ≡ false = sym has ∙ subst (λ x. has_latch p x ≡ false) same none in cc
    by_test true false e = refl
    by_test false true e = refl
    by_test false false e = refl

spared_added : {A : Type 0} (p : Places) (words : List ℕ) (ask : Ask A) (at number : ℕ) → SparesLatches p words ask → has_latch p at ≡ true → added_by number at ask ≡ 0
spared_added p words (Add place k) at number spares has = spared_word p place at k number spares has
spared_added p words ask at number spares has = refl

record Balances (a b : LatchActor) (ask : Ask Told) (at : ℕ) : Type 0 where
  shares : shares_of at a + added_by one_share at ask ≡ shares_of at b + added_by (2 ^ 64 - one_share) at ask

balanced : (k : Seat) (s : SessionState) (a : LatchActor) (words : List ℕ) (reply at : ℕ) (works : Bool) → is_at_rest (session_latching s) ≡ works → a.step ≡ session_latching s
    → (session_latching s ≡ latching.AtRest → SparesLatches k.places words (session_ask k s)) → has_latch k.places at ≡ true → Balances a (replied a reply) (session_ask k s) at
balanced k s a words reply at true e same spares has =
    let rests = rests_at (session_latching s) e in
    let one = spared_added k.places words (session_ask k s) at one_share (spares rests) has in
    let other = spared_added k.places words (session_ask k s) at (2 ^ 64 - one_share) (spares rests) has in
    record { shares = rw (one, other, rests_on a reply (same ∙ rests)) refl }
  where
    rests_at : (step : Latching) → is_at_rest step ≡ true → step ≡ latching.AtRest
    rests_at latching.AtRest e = refl
    rests_at step e = cc
balanced k s a words reply at false e same spares has =
    record {
      shares = rw (session_asks k s e) (subst (λ x. shares_of at (actor_of x a.shared a.exclusive) + added_by one_share at (passed (latch_ask (session_latching s)) told.Slept)
          ≡ shares_of at (replied (actor_of x a.shared a.exclusive) reply) + added_by (2 ^ 64 - one_share) at (passed (latch_ask (session_latching s)) told.Slept)) (sym same)
          (replied_shares (session_latching s) a.shared a.exclusive reply at told.Slept));
    }

came_by : (k : Seat) (s : SessionState) (a b : LatchActor) (reply : ℕ) → Came k s a → ((at : ℕ) → has_latch k.places at ≡ true → Balances a b (session_ask k s) at) → Came k (session_next k s reply) b
unfolding session_run session_happens times_added
came_by k s a b reply came balance = record {
  its = came.its;
  opening = came.opening;
  events = Replies reply ∷ came.events;
  opened = came.opened;
  same = ap (λ x. session_next k x reply) came.same;
  counts = λ at has.
      let before = came.counts at has in
      let step = (balance at has).shares in
      let one : added_by one_share at (session_ask k (session_run k came.opening came.events)) ≡ added_by one_share at (session_ask k s) = ap (λ x. added_by one_share at (session_ask k x)) (sym came.same) in
      let other : added_by (2 ^ 64 - one_share) at (session_ask k (session_run k came.opening came.events)) ≡ added_by (2 ^ 64 - one_share) at (session_ask k s) = ap (λ x. added_by (2 ^ 64 - one_share) at (session_ask k x)) (sym came.same) in
      omega (arith, before, step, one, other);
}

-- the session's own step
pub replies : (k : Seat) (s : SessionState) (a : LatchActor) (words : List ℕ) (reply : ℕ) → HomesAreLow k.places (bits_of k) → (session_latching s ≡ latching.AtRest → SparesLatches k.places words (session_ask k s)) → Sits k s a → Stands k (session_next k s reply) (replied a reply)
replies k s a words reply homes spares sits =
    let led = session_led k s reply homes sits.knows in
    let step : (replied a reply).step ≡ latch_next (session_latching s) reply = given_step a.step (latch_next_ask a.step reply) (record a { step = latch_next a.step reply }) ∙ ap (λ x. latch_next x reply) sits.step in
    let alone : (replied a reply).exclusive ≡ alone_given (session_latching s) (latch_next_ask (session_latching s) reply) (session_alone k.places s) =
    given_alone a.step (latch_next_ask a.step reply) (record a { step = latch_next a.step reply }) ∙ ap (λ x. alone_given x (latch_next_ask x reply) a.exclusive) sits.step ∙ ap (λ x. alone_given (session_latching s) (latch_next_ask (session_latching s) reply) x) sits.alone in
    record {
      knows = led.knows;
      fits = rw (step, alone) led.fits;
      came = came_by k s a (replied a reply) reply sits.came (λ at has. balanced k s a words reply at (is_at_rest (session_latching s)) refl sits.step spares has);
    }

-- where nothing is to begin
no_first : {X : Type 0} (task : LatchTask) (place : ℕ) → latching.AtRest ≡ latch_first task place → X
no_first TakeShared place e = cc
no_first DropShared place e = cc
no_first TakeExclusive place e = cc
no_first DropExclusive place e = cc

pub settled : (k : Seat) (s : SessionState) (a : LatchActor) → session_latching s ≡ latching.AtRest → Stands k s a → Sits k s a
settled k s a rests stands = by_fits stands.fits
  where
    by_fits : FitsAt k.places a.step a.exclusive (session_latching s) (session_alone k.places s) → Sits k s a
    by_fits (KeepsAt same holds later) = record { knows = stands.knows; step = same; alone = holds; came = stands.came }
    by_fits (StartsAt task bucket low free first left had) = no_first task (bucket_place k.places bucket 7) (sym rests ∙ first)

-- an action that is put goes with the step, and so does one that is taken
pub puts : (k : Seat) (s : SessionState) (a : LatchActor) (slot : ℕ) (action : Action) → HomesAreLow k.places (bits_of k) → session_ask k s ≡ Put slot action → session_latching s ≡ latching.AtRest → Sits k s a → Stands k (session_next k s 0) a
puts k s a slot action homes asks rests sits = subst (λ x. Stands k (session_next k s 0) x) (rests_on a 0 (sits.step ∙ rests)) (replies k s a [] 0 homes (λ e. rw asks tt) sits)

pub gets : (k : Seat) (s : SessionState) (a : LatchActor) (action : Action) → session_latching s ≡ latching.AtRest → Sits k s a → Stands k (session_given k s action) a
unfolding session_run session_happens times_added
gets k s a action rests sits =
    let led = given_led k s action sits.knows rests in
    let came = sits.came in
    record {
      knows = led.knows;
      fits = rw (sits.step ∙ rests, sits.alone) led.fits;
      came = record {
        its = came.its;
        opening = came.opening;
        events = Gets action ∷ came.events;
        opened = came.opened;
        same = ap (λ x. session_given k x action) came.same;
        counts = λ at has. let before = came.counts at has in omega (arith, before);
      };
    }

pub still : (k : Seat) (s : SessionState) (a : LatchActor) → session_latching s ≡ latching.AtRest → Sits k s a → Stands k s a
still k s a rests sits = record { knows = sits.knows; fits = KeepsAt sits.step sits.alone (ap is_first rests); came = sits.came }

-- a session shares no more latches than it has requests
few_of : (n m : ℕ) → (0 < n → ⊥) → n ≤ m
few_of zero m none = omega arith
few_of (suc n) m none = absurd (none (omega arith))

abbrev pub book : (k : Seat) (s : SessionState) (a : LatchActor) → Came k s a → ℕ → Book
book k s a came at = record { seat = k; its = came.its; at = at; added = shares_added k came.opening came.events at; dropped = shares_dropped k came.opening came.events at }

pub shares_at : (k : Seat) (s : SessionState) (a : LatchActor) (came : Came k s a) (at : ℕ) → StepShares (book k s a came at) s s.step
shares_at k s a came at = subst (λ x. StepShares (book k s a came at) x x.step) (sym came.same) (run_shares k came.its came.opening came.events at came.opened)

at_rest_shares : (a : LatchActor) (at : ℕ) → a.step ≡ latching.AtRest → shares_of at a ≡ times at a.shared
at_rest_shares a at e = rw e (omega arith)

few_shared : (k : Seat) (s : SessionState) (a : LatchActor) (i place : ℕ) → IsActor k.places i a → a.step ≡ latching.AtRest → session_latching s ≡ latching.AddsShare place → Stands k s a → length a.shared ≤ max_pending
few_shared k s a i place is rests first stands =
    let came = stands.came in
    let room = run_room k came.opening came.events came.opened in
    let few : length s.requests ≤ max_pending = rw came.same room.few in
    let fewer = shared_few k s.requests in
    let all = no_longer a.shared (shared_by k s.requests) (λ p. each p (has_latch k.places p) refl) in
    omega (arith, few, fewer, all)
  where
    each : (p : ℕ) (b : Bool) → has_latch k.places p ≡ b → times p a.shared ≤ times p (shared_by k s.requests)
    each p true has =
        let came = stands.came in
        let its = takes (book k s a came p) s place (shares_at k s a came p) stands.knows first in
        let counts = came.counts p has in
        let same = at_rest_shares a p rests in
        let by = shared_times k p s.requests in
        omega (arith, its, counts, same, by)
    each p false none = few_of _ _ (λ some. let clash : true ≡ false = sym (is.of_latches p (omega (arith, some))) ∙ none in cc)

has_one : (k : Seat) (s : SessionState) (a : LatchActor) (place : ℕ) → a.step ≡ latching.AtRest → has_latch k.places place ≡ true → session_latching s ≡ latching.DropsShare place → Stands k s a → 0 < times place a.shared
has_one k s a place rests has first stands =
    let came = stands.came in
    let its = drops (book k s a came place) s (shares_at k s a came place) stands.knows first in
    let counts = came.counts place has in
    let same = at_rest_shares a place rests in
    omega (arith, its, counts, same)

below_true : (a b : ℕ) → a < b → nat_lt a b ≡ true
below_true a b low = grind (arith, nat_tests, low)

most_true : (a b : ℕ) → a ≤ b → nat_le a b ≡ true
most_true a b low = grind (arith, nat_tests, low)

its_may : (k : Seat) (s : SessionState) (a : LatchActor) (i place : ℕ) (task : LatchTask) → i < max_sessions → IsActor k.places i a → a.step ≡ latching.AtRest → has_latch k.places place ≡ true → session_latching s ≡ latch_first task place
    → HasHeld task place a.exclusive → Stands k s a → may_do i task place a ≡ true
its_may k s a i place TakeShared low is rests has first had stands =
    let one = below_true i max_sessions low in
    let other = most_true (length a.shared) max_pending (few_shared k s a i place is rests first stands) in
    rw (one, other) refl
its_may k s a i place DropShared low is rests has first had stands = below_true 0 (times place a.shared) (has_one k s a place rests has first stands)
its_may k s a i place TakeExclusive low is rests has first had stands = refl
its_may k s a i place DropExclusive low is rests has first had stands = below_true 0 (times place a.exclusive) had

-- a bucket of the index has a latch
bucket_latch : (p : Places) (bucket : ℕ) → bucket < p.buckets → has_latch p (bucket_place p bucket 7) ≡ true
bucket_latch p bucket low = let within : (bucket_place p bucket 7 - bucket_place p 0 0) % 8 ≡ 7 = omega arith in grind (arith, nat_tests, low, within)

begun_there : (i place : ℕ) (task : LatchTask) → begun_at i (latch_first task place) ≡ Begins i task place ∷ []
begun_there i place TakeShared = refl
begun_there i place DropShared = refl
begun_there i place TakeExclusive = refl
begun_there i place DropExclusive = refl

begun_none : (i : ℕ) (step : Latching) → is_first step ≡ false → begun_at i step ≡ []
begun_none i (latching.AddsShare q) e = cc
begun_none i (latching.DropsShare q) e = cc
begun_none i (latching.LoadsWord q) e = cc
begun_none i (latching.DropsExclusive q) e = cc
begun_none i step e = refl

begun_step : (task : LatchTask) (place : ℕ) (a : LatchActor) → ((begun_by task place a).step ≡ latch_first task place) × ((begun_by task place a).exclusive ≡ alone_left task place a.exclusive)
begun_step TakeShared place a = (refl, refl)
begun_step DropShared place a = (refl, refl)
begun_step TakeExclusive place a = (refl, refl)
begun_step DropExclusive place a = (refl, refl)

pub set_same : {X : Type 0} (xs : List X) (i : ℕ) (x : X) → slice_get xs i ≡ Some x → slice_set xs i x ≡ xs
set_same [] i x got = refl
set_same (y ∷ rest) zero x got = let same : y ≡ x = cc in rw same refl
set_same (y ∷ rest) (suc i) x got = ap (λ ys. y ∷ ys) (set_same rest i x got)

all_three : (b c d : Bool) → b ≡ true → c ≡ true → d ≡ true → (b && c && d) ≡ true
all_three true true d one other last = last
all_three true false d one other last = cc
all_three false c d one other last = cc

-- the task begins
pub record Begun (k : Seat) (s : SessionState) (w : LatchWorld) (i : ℕ) : Type 0 where
  pub actor : LatchActor
  pub same : latch_run w (begun_at i (session_latching s)) ≡ record w { actors = slice_set w.actors i actor }
  pub sits : Sits k s actor

pub task_begins : (k : Seat) (s : SessionState) (a : LatchActor) (w : LatchWorld) (i : ℕ) → w.places ≡ k.places → slice_get w.actors i ≡ Some a → IsSound w → i < max_sessions → Stands k s a → Begun k s w i
unfolding latch_run
task_begins k s a w i places got sound low stands = by_fits stands.fits
  where
    its_actor : IsActor k.places i a
    its_actor = subst (λ p. IsActor p i a) places (sound.actors i a got)

    by_fits : FitsAt k.places a.step a.exclusive (session_latching s) (session_alone k.places s) → Begun k s w i
    by_fits (KeepsAt same holds later) = record {
      actor = a;
      same = rw (begun_none i (session_latching s) later) (ap (λ xs. record w { actors = xs }) (sym (set_same w.actors i a got)));
      sits = record { knows = stands.knows; step = same; alone = holds; came = stands.came };
    }
    by_fits (StartsAt task bucket few rests first left had) =
        let place : ℕ = bucket_place k.places bucket 7 in
        let has = bucket_latch k.places bucket few in
        let may = its_may k s a i place task low its_actor rests has first had stands in
        let begin : may_begin w.places i task place a ≡ true = all_three (is_at_rest a.step) (has_latch w.places place) (may_do i task place a) (ap is_at_rest rests) (ap (λ p. has_latch p place) places ∙ has) may in
        let came = stands.came in
        record {
          actor = begun_by task place a;
          same = rw (first, begun_there i place task) (begins w i task place a got begin);
          sits = record {
            knows = stands.knows;
            step = (begun_step task place a).0 ∙ sym first;
            alone = (begun_step task place a).1 ∙ left;
            came = record {
              its = came.its;
              opening = came.opening;
              events = came.events;
              opened = came.opened;
              same = came.same;
              counts = λ at its.
                  let before = came.counts at its in
                  let kept : shares_of at (begun_by task place a) ≡ shares_of at a = subst (λ x. shares_of at (begun_by task place (actor_of x a.shared a.exclusive)) ≡ shares_of at (actor_of x a.shared a.exclusive)) (sym rests)
                  (begun_shares task place at a.shared a.exclusive (λ is. has_one k s a place rests has (first ∙ ap (λ t. latch_first t place) is) stands)) in
                  omega (arith, before, kept);
            };
          };
        }
