-- At every moment each machine's state tells its task, so each step of each task is true.
use Rattle.std.proofs.Common.{◌≡◌, ◌≢◌, ℕ, ◌∙◌, ◌↔◌, zero, suc, List, [], ◌∷◌, length, refl, arith, sym, ap, subst, Bool, true, false, eqb-true}
use Rattle.std.specs.Prelude.{Option, Some, None, ◌==◌, if◌then◌else◌, replicate, slice_get, slice_set}
use Rattle.std.proofs.lemmas.Bool.Decides.{nat_tests}
use Rattle.fkv_plane.specs.declared.places.Places.{Places}
use Rattle.fkv_plane.specs.Asked.{reply_to}
use Rattle.fkv_latch.specs.declared.latching.LatchTask.{LatchTask}
use Rattle.fkv_latch.specs.declared.latching.LatchTask.TheVariants.{TakeShared, DropShared, TakeExclusive, DropExclusive}
use Rattle.fkv_latch.specs.declared.latching.Latching.{Latching}
use Rattle.fkv_latch.specs.declared.latching.Latching.TheVariants.{AtRest, AddsShare, GivesBack, DropsShare, LoadsWord, SetsExclusive, DropsExclusive}
use Rattle.fkv_latch.specs.Latching.{IsLatchInRange, latch_ask, latch_next, latch_next_ask}
use Rattle.fkv_latch.specs.LatchWorld.{LatchEvent, Begins, Moves, Changes, LatchActor, LatchWorld, has_latch, may_begin, begun_by, begun, replied, moved, latch_happens, latch_run}
use Rattle.fkv_latch.specs.Latched.{opening}
use Rattle.fkv_latch.specs.Tasks.{TaskUnderWay, task_begun, task_moved, task_after, task_of, AreTasksTrue, RestBetweenTasks, RestersStay}
use Rattle.fkv_latch.proofs.Actors.{WorksOnLatch, actor_of}
use Rattle.fkv_latch.proofs.Events.{moves, spared_stays}
use Rattle.fkv_latch.proofs.Places.{latch_within}
use Rattle.fkv_latch.proofs.Sound.{IsSound, run_sound}
use Rattle.fkv_latch.proofs.Tails.{HasTail, has_tail}
use Rattle.fkv_latch.proofs.Tasks.{KnowsTask, AtLatch, known_moved, step_true}

-- each actor's machine tells its task
abbrev pub AllKnown : LatchWorld → (ℕ → Option TaskUnderWay) → Type 0
AllKnown w tasks = (i : ℕ) (a : LatchActor) → slice_get w.actors i ≡ Some a → KnowsTask a.step (tasks i)

-- a machine works on a latch that there is
latch_at : (p : Places) (q : ℕ) (step : Latching) → WorksOnLatch p step → AtLatch q step → has_latch p q ≡ true
latch_at p q AtRest works at = absurd at
latch_at p q (AddsShare place) works at = rw at works
latch_at p q (GivesBack place) works at = rw at works
latch_at p q (DropsShare place) works at = rw at works
latch_at p q (LoadsWord place) works at = rw at works
latch_at p q (SetsExclusive place word) works at = rw at works.0
latch_at p q (DropsExclusive place) works at = rw at works

in_range : (p : Places) (step : Latching) → WorksOnLatch p step → IsLatchInRange step
in_range p AtRest works = tt
in_range p (AddsShare place) works = tt
in_range p (GivesBack place) works = tt
in_range p (DropsShare place) works = tt
in_range p (LoadsWord place) works = tt
in_range p (SetsExclusive place word) works = works.1
in_range p (DropsExclusive place) works = tt

tails_of : (w : LatchWorld) (i q : ℕ) (a : LatchActor) → IsSound w → slice_get w.actors i ≡ Some a → AtLatch q a.step → HasTail w.words q a
tails_of w i q a sound got at = has_tail w i q a sound got (latch_at w.places q a.step (sound.actors i a got).works at)

-- a task that is begun
known_begun : (task : LatchTask) (place : ℕ) (a : LatchActor) → KnowsTask (begun_by task place a).step (Some (record { task = task; place = place; met = [] }))
known_begun TakeShared place a = refl
known_begun DropShared place a = refl
known_begun TakeExclusive place a = refl
known_begun DropExclusive place a = refl

get_set : {X : Type 0} (xs : List X) (i : ℕ) (x y z : X) → slice_get xs i ≡ Some x → slice_get (slice_set xs i y) i ≡ Some z → z ≡ y
get_set [] i x y z got e = cc
get_set (o ∷ xs) zero x y z got e = cc
get_set (o ∷ xs) (suc i) x y z got e = get_set xs i x y z got e

begins_known : (w : LatchWorld) (i place : ℕ) (task : LatchTask) (t : Option TaskUnderWay) (found : Option LatchActor) (b : LatchActor) → slice_get w.actors i ≡ found → ((a : LatchActor) → slice_get w.actors i ≡ Some a → KnowsTask a.step t)
    → slice_get (begun w i task place found).actors i ≡ Some b → KnowsTask b.step (task_begun w.places i task place found t)
begins_known w i place task t None b got all e = all b e
begins_known w i place task t (Some a) b got all e = tested (may_begin w.places i task place a) e
  where
    tested : (c : Bool) → slice_get (if c then record w { actors = slice_set w.actors i (begun_by task place a) } else w).actors i ≡ Some b
        → KnowsTask b.step (if c then Some (record { task = task; place = place; met = [] }) else t)
    tested true e = rw (get_set w.actors i a (begun_by task place a) b got e) (known_begun task place a)
    tested false e = all b e

moves_known : (w : LatchWorld) (i : ℕ) (t : Option TaskUnderWay) (found : Option LatchActor) (b : LatchActor) → IsSound w → slice_get w.actors i ≡ found → ((a : LatchActor) → slice_get w.actors i ≡ Some a → KnowsTask a.step t)
    → slice_get (moved w i found).actors i ≡ Some b → KnowsTask b.step (task_moved w.words found t)
moves_known w i t None b sound got all e = all b e
moves_known w i t (Some a) b sound got all e =
    rw (get_set w.actors i a (replied a (reply_to w.words (latch_ask a.step))) b got e)
    (known_moved w.words t a.step a.shared a.exclusive (λ q at. tails_of w i q a sound got at) (all a got))

pub event_known : (w : LatchWorld) (event : LatchEvent) (i : ℕ) (t : Option TaskUnderWay) (b : LatchActor) → IsSound w → ((a : LatchActor) → slice_get w.actors i ≡ Some a → KnowsTask a.step t)
    → slice_get (latch_happens w event).actors i ≡ Some b → KnowsTask b.step (task_after w i event t)
unfolding latch_happens
event_known w (Begins j task place) i t b sound all e = tested (j == i) refl
  where
    tested : (c : Bool) → (j == i) ≡ c → KnowsTask b.step (if c then task_begun w.places i task place (slice_get w.actors i) t else t)
    tested true h =
        let same : j ≡ i = eqb-true j i h in
        begins_known w i place task t (slice_get w.actors i) b refl all (subst (λ k. slice_get (begun w k task place (slice_get w.actors k)).actors i ≡ Some b) same e)
    tested false h =
        let other : j ≢ i = grind (arith, nat_tests, h) in
        all b (sym (spared_stays w (Begins j task place) i other) ∙ e)
event_known w (Moves j) i t b sound all e = tested (j == i) refl
  where
    tested : (c : Bool) → (j == i) ≡ c → KnowsTask b.step (if c then task_moved w.words (slice_get w.actors i) t else t)
    tested true h =
        let same : j ≡ i = eqb-true j i h in
        moves_known w i t (slice_get w.actors i) b sound refl all (subst (λ k. slice_get (moved w k (slice_get w.actors k)).actors i ≡ Some b) same e)
    tested false h =
        let other : j ≢ i = grind (arith, nat_tests, h) in
        all b (sym (spared_stays w (Moves j) i other) ∙ e)
event_known w (Changes place word) i t b sound all e = all b (sym (spared_stays w (Changes place word) i tt) ∙ e)

pub run_known : (w : LatchWorld) (events : List LatchEvent) → IsSound w → AllKnown w (λ i. None) → AllKnown (latch_run w events) (task_of w events)
unfolding latch_run task_of
run_known w [] sound known = known
run_known w (event ∷ before) sound known = λ i b got.
    event_known (latch_run w before) event i (task_of w before i) b (run_sound w before sound) (run_known w before sound known i) got

pub opening_known : (places : Places) (actors : ℕ) (words : List ℕ) → AllKnown (opening places actors words) (λ i. None)
opening_known places actors words = λ i a got. let same = nobody actors i a got in rw same refl
  where
    nobody : (n i : ℕ) (a : LatchActor) → slice_get (replicate n (actor_of AtRest [] [])) i ≡ Some a → a ≡ actor_of AtRest [] []
    nobody zero i a e = cc
    nobody (suc n) zero a e = cc
    nobody (suc n) (suc i) a e = nobody n i a e

pub known_true : (w : LatchWorld) (tasks : ℕ → Option TaskUnderWay) → IsSound w → AllKnown w tasks → AreTasksTrue w tasks
known_true w tasks sound known = λ i a b t got its next.
    let event = moves w i a got in
    let same = get_set w.actors i a (replied a (reply_to w.words (latch_ask a.step))) b got (subst (λ after. slice_get after.actors i ≡ Some b) event next) in
    let works = (sound.actors i a got).works in
    rw (event, same) (step_true w.words t a.step a.shared a.exclusive
    (λ q at. (latch_within w.places q (length w.words) (latch_at w.places q a.step works at) sound.enough_words, tails_of w i q a sound got at))
    (in_range w.places a.step works) (subst (KnowsTask a.step) its (known i a got)))

pub known_rest : (w : LatchWorld) (tasks : ℕ → Option TaskUnderWay) → AllKnown w tasks → RestBetweenTasks w tasks
known_rest w tasks known = λ i a got. rests a.step (tasks i) (known i a got)
  where
    rests : (step : Latching) (t : Option TaskUnderWay) → KnowsTask step t → (step ≡ AtRest) ↔ (t ≡ None)
    rests AtRest t knows = ((λ e. knows), (λ e. refl))
    rests (AddsShare place) t knows = ((λ e. cc), (λ e. cc))
    rests (GivesBack place) t knows = ((λ e. cc), (λ e. let some = knows.its_task in cc))
    rests (DropsShare place) t knows = ((λ e. cc), (λ e. cc))
    rests (LoadsWord place) t knows = ((λ e. cc), (λ e. cc))
    rests (SetsExclusive place word) t knows = ((λ e. cc), (λ e. let some = knows.0 in cc))
    rests (DropsExclusive place) t knows = ((λ e. cc), (λ e. cc))

set_same : {X : Type 0} (xs : List X) (i : ℕ) (x : X) → slice_get xs i ≡ Some x → slice_set xs i x ≡ xs
set_same [] i x got = refl
set_same (o ∷ xs) zero x got = let same : o ≡ x = cc in rw same refl
set_same (o ∷ xs) (suc i) x got = ap (λ rest. o ∷ rest) (set_same xs i x got)

pub known_still : (w : LatchWorld) (tasks : ℕ → Option TaskUnderWay) → AllKnown w tasks → RestersStay w tasks
unfolding latch_happens latch_ask latch_next latch_next_ask
known_still w tasks known = λ i none. found i (slice_get w.actors i) refl none
  where
    at_rest : (i : ℕ) (step : Latching) (shared exclusive : List ℕ) → slice_get w.actors i ≡ Some (actor_of step shared exclusive) → step ≡ AtRest → moved w i (Some (actor_of step shared exclusive)) ≡ w
    at_rest i AtRest shared exclusive got e = ap (λ actors. record w { actors = actors }) (set_same w.actors i (actor_of AtRest shared exclusive) got)
    at_rest i (AddsShare place) shared exclusive got e = cc
    at_rest i (GivesBack place) shared exclusive got e = cc
    at_rest i (DropsShare place) shared exclusive got e = cc
    at_rest i (LoadsWord place) shared exclusive got e = cc
    at_rest i (SetsExclusive place word) shared exclusive got e = cc
    at_rest i (DropsExclusive place) shared exclusive got e = cc

    found : (i : ℕ) (it : Option LatchActor) → slice_get w.actors i ≡ it → tasks i ≡ None → moved w i it ≡ w
    found i None got none = refl
    found i (Some a) got none = at_rest i a.step a.shared a.exclusive got ((known_rest w tasks known i a got).1 none)
