-- While its record is undecided a session sees nothing new.
use Rattle.std.proofs.Common.{◌≡◌, ℕ, List, refl, sym, ap, inl, inr, ◌∙◌, Bool, true, false}
use Rattle.std.specs.Prelude.{Option, Some, None, slice_get, slice_set, nat_le, ◌&&◌, if◌then◌else◌}
use Rattle.fkv_plane.specs.Asked.{word_at}
use Rattle.fkv_epoch.specs.declared.protecting.Protecting.TheVariants as protect
use Rattle.fkv_epoch.specs.declared.refreshing.Refreshing.TheVariants as refresh
use Rattle.fkv_epoch.specs.declared.raising.Raising.TheVariants as raise
use Rattle.fkv_epoch.specs.EpochWorld.{EpochMachine, Protects, Refreshes, Leaves, Scans, Claims, Raises, HasRaised, Arms, Sight, is_at_rest, sight_of}
use Rattle.fkv_epoch.proofs.Shown.{item_written, item_spared, same_or, none_some, some_same}
use Rattle.fkv_flush.specs.GuardWorld.{Actor, Work, Rests, Reserves, Fills, Invalidates, Shifts, Turns, Flushes, Serves, GuardTask, ToDo, ToReserve, ToFill, ToInvalidate, ToShift, ToTurnPage, ToFlush, ToServe, GuardNow, GuardWorld, GuardEvent, Begins, Resumes, Moves, Calls, Reads, Sees, Publishes, Updates, RaisesReadOnly, RaisesFor, Changes, CallsElse, guard_happens, is_idle, is_none, is_guarded, is_stored, may_work, seen_with, epoch_step, work_step, actor_step, started, begun, resumed, moved, called, called_by, read, read_by, seen_again, published, updated, read_only_raised, raised_for, raised_with, changed}
use Rattle.fkv_flush.specs.Guarded.{seen_at, seen_of, undecided_at, is_steady, KeepsSeen}
use Rattle.fkv_flush.proofs.GuardSound.{IsSound}
use Rattle.fkv_flush.proofs.GuardWorks.{truth}

-- the actor has seen what it had, if it had an undecided record
abbrev SeesNothing : Actor → Actor → Type 0
SeesNothing was now = (addr : ℕ) → was.undecided ≡ Some addr → now.seen ≡ was.seen

-- each actor is there after the event too, and has seen so
abbrev AllSee : List Actor → List Actor → Type 0
AllSee was now = (b : ℕ) (x : Actor) → slice_get was b ≡ Some x → (y : Actor) × (slice_get now b ≡ Some y) × SeesNothing x y

all_same : (actors : List Actor) → AllSee actors actors
all_same actors b x found = (x, found, λ addr u. refl)

put_sees : (actors : List Actor) (a : ℕ) (x x' : Actor) → slice_get actors a ≡ Some x → SeesNothing x x' → AllSee actors (slice_set actors a x')
put_sees actors a x x' got sees b y found = elim (same_or b a) [
  | inl e ↦
      let same : x ≡ y = some_same x y (sym got ∙ (ap (slice_get actors) (sym e) ∙ found)) in
      (x', ap (slice_get (slice_set actors a x')) e ∙ item_written actors a x x' got, λ addr u. sees addr (ap (λ (z : Actor). z.undecided) same ∙ u) ∙ ap (λ (z : Actor). z.seen) same)
  | inr n ↦ (y, item_spared actors a b x' n ∙ found, λ addr u. refl)
]

either_sees : (actors : List Actor) (n m : GuardNow) (b : Bool) → AllSee actors n.actors → AllSee actors m.actors → AllSee actors (if b then n else m).actors
either_sees actors n m true p q = p
either_sees actors n m false p q = q

-- a machine that is begun has seen nothing yet
begun_seen : (n : GuardNow) (x : Actor) (task : GuardTask) → (started n x task).seen ≡ x.seen
begun_seen n x (ToDo task) = refl
begun_seen n x (ToReserve bound) = refl
begun_seen n x (ToFill its_words) = refl
begun_seen n x (ToInvalidate header) = refl
begun_seen n x ToShift = refl
begun_seen n x (ToTurnPage form tail) = refl
begun_seen n x ToFlush = refl
begun_seen n x (ToServe begin) = refl

-- a machine of the epochs that neither protects itself nor refreshes loads no offset
steady_sight : (d : EpochMachine) → is_steady d ≡ true → sight_of d ≡ None
steady_sight (Protects protect.AtRest) e = refl
steady_sight (Refreshes refresh.AtRest) e = refl
steady_sight (Leaves step) e = refl
steady_sight (Scans step) e = refl
steady_sight (Claims step) e = refl
steady_sight (Raises step) e = refl
steady_sight (HasRaised slot epoch) e = refl
steady_sight (Arms step) e = refl
steady_sight d e = cc

moved_seen : (w : GuardWorld) (a : ℕ) (x : Actor) → IsSound w → slice_get w.now.actors a ≡ Some x → SeesNothing x (actor_step w.now a x).actor
moved_seen w a x sound got addr u = by (is_idle x.work) x.work
  where
    own : seen_with x.seen (sight_of x.machine) w.now.words ≡ x.seen
    own = ap (λ (s : Option Sight). seen_with x.seen s w.now.words) (steady_sight x.machine (sound.steady a addr x got u))

    by : (idle : Bool) (work : Work) → (if idle then epoch_step w.now a x else work_step w.now a x work).actor.seen ≡ x.seen
    by true work = own
    by false Rests = own
    by false (Reserves step) = refl
    by false (Fills step) = refl
    by false (Invalidates step) = refl
    by false (Shifts s) = refl
    by false (Turns s) = refl
    by false (Flushes step bytes) = refl
    by false (Serves begin step) = refl

some_not : {X : Type 0} (u : Option ℕ) (addr : ℕ) → is_none u ≡ true → u ≡ Some addr → X
some_not None addr e f = cc
some_not (Some other) addr e f = cc

all_see : (w : GuardWorld) (event : GuardEvent) → IsSound w → AllSee w.now.actors (guard_happens w event).now.actors
unfolding guard_happens
all_see w (Begins a task) sound = by (slice_get w.now.actors a) refl
  where
    by : (found : Option Actor) → slice_get w.now.actors a ≡ found → AllSee w.now.actors (begun w.now a task found).actors
    by None got = all_same w.now.actors
    by (Some x) got = either_sees w.now.actors _ w.now (is_at_rest x.machine && is_idle x.work && may_work w.now a x task) (put_sees w.now.actors a x (started w.now x task) got (λ addr u. begun_seen w.now x task)) (all_same w.now.actors)
all_see w (Resumes a) sound = by (slice_get w.now.actors a) refl
  where
    by : (found : Option Actor) → slice_get w.now.actors a ≡ found → AllSee w.now.actors (resumed w.now a found).actors
    by None got = all_same w.now.actors
    by (Some x) got = either_sees w.now.actors _ w.now (is_idle x.work) (put_sees w.now.actors a x _ got (λ addr u. refl)) (all_same w.now.actors)
all_see w (Moves a) sound = by (slice_get w.now.actors a) refl
  where
    by : (found : Option Actor) → slice_get w.now.actors a ≡ found → AllSee w.now.actors (moved w.now a found).actors
    by None got = all_same w.now.actors
    by (Some x) got = put_sees w.now.actors a x (actor_step w.now a x).actor got (moved_seen w a x sound got)
all_see w (Calls a done) sound = by (slice_get w.now.actors a) refl
  where
    by_work : (x : Actor) (work : Work) → slice_get w.now.actors a ≡ Some x → AllSee w.now.actors (called_by w.now a done x work).actors
    by_work x (Flushes step bytes) got = put_sees w.now.actors a x _ got (λ addr u. refl)
    by_work x work got = all_same w.now.actors

    by : (found : Option Actor) → slice_get w.now.actors a ≡ found → AllSee w.now.actors (called w.now a done found).actors
    by None got = all_same w.now.actors
    by (Some x) got = by_work x x.work got
all_see w (Reads a bytes) sound = by (slice_get w.now.actors a) refl
  where
    by_work : (x : Actor) (work : Work) → slice_get w.now.actors a ≡ Some x → AllSee w.now.actors (read_by w.now a bytes x work).actors
    by_work x (Serves begin step) got = put_sees w.now.actors a x _ got (λ addr u. refl)
    by_work x work got = all_same w.now.actors

    by : (found : Option Actor) → slice_get w.now.actors a ≡ found → AllSee w.now.actors (read w.now a bytes found).actors
    by None got = all_same w.now.actors
    by (Some x) got = by_work x x.work got
all_see w (Sees a sight) sound = by (slice_get w.now.actors a) refl
  where
    by : (found : Option Actor) → slice_get w.now.actors a ≡ found → AllSee w.now.actors (seen_again w.now a sight found).actors
    by None got = all_same w.now.actors
    by (Some x) got = elim (truth (is_none x.undecided)) [
      | inl e ↦ rw e (put_sees w.now.actors a x _ got (λ addr u. some_not x.undecided addr e u))
      | inr e ↦ rw e (all_same w.now.actors)
    ]
all_see w (Publishes a) sound = by (slice_get w.now.actors a) refl
  where
    by : (found : Option Actor) → slice_get w.now.actors a ≡ found → AllSee w.now.actors (published w.now a found).actors
    by None got = all_same w.now.actors
    by (Some x) got = either_sees w.now.actors _ w.now (is_idle x.work) (put_sees w.now.actors a x _ got (λ addr u. refl)) (all_same w.now.actors)
all_see w (Updates a addr word) sound = by (slice_get w.now.actors a) refl
  where
    by : (found : Option Actor) → slice_get w.now.actors a ≡ found → AllSee w.now.actors (updated w.now a addr word found).actors
    by None got = all_same w.now.actors
    by (Some x) got = put_sees w.now.actors a x x got (λ _ u. refl)
all_see w (RaisesReadOnly a to) sound = by (slice_get w.now.actors a) refl
  where
    by : (found : Option Actor) → slice_get w.now.actors a ≡ found → AllSee w.now.actors (read_only_raised w.now a to found).actors
    by None got = all_same w.now.actors
    by (Some x) got = either_sees w.now.actors _ w.now (nat_le to (word_at w.now.words 3)) (put_sees w.now.actors a x x got (λ addr u. refl)) (all_same w.now.actors)
all_see w (RaisesFor a action) sound = by (slice_get w.now.actors a) refl
  where
    by_machine : (x : Actor) (d : EpochMachine) → slice_get w.now.actors a ≡ Some x → AllSee w.now.actors (raised_with w.now a action x d).actors
    by_machine x (Raises (raise.RaisesEpoch slot)) got = put_sees w.now.actors a x _ got (λ addr u. refl)
    by_machine x d got = all_same w.now.actors

    by : (found : Option Actor) → slice_get w.now.actors a ≡ found → AllSee w.now.actors (raised_for w.now a action found).actors
    by None got = all_same w.now.actors
    by (Some x) got = either_sees w.now.actors _ w.now (is_idle x.work && is_stored w.now.words action) (by_machine x x.machine got) (all_same w.now.actors)
all_see w (Changes a place word) sound = by (slice_get w.now.actors a) refl
  where
    by : (found : Option Actor) → slice_get w.now.actors a ≡ found → AllSee w.now.actors (changed w.now a place word found).actors
    by None got = all_same w.now.actors
    by (Some x) got = either_sees w.now.actors w.now _ (is_guarded w.now.places place) (all_same w.now.actors) (put_sees w.now.actors a x x got (λ addr u. refl))
all_see w (CallsElse call) sound = all_same w.now.actors

-- what a session with an undecided record has seen stays
pub keeps_seen : (w : GuardWorld) (event : GuardEvent) → IsSound w → KeepsSeen w event
keeps_seen w event sound s addr u = by (slice_get w.now.actors s) refl
  where
    by : (was : Option Actor) → slice_get w.now.actors s ≡ was → seen_of (guard_happens w event).now.actors s ≡ seen_of w.now.actors s
    by None got = none_some {Y = seen_of (guard_happens w event).now.actors s ≡ seen_of w.now.actors s} addr (sym (ap undecided_at got) ∙ u)
    by (Some x) got =
        let here = all_see w event sound s x got in
        ap seen_at here.1 ∙ here.2 addr (sym (ap undecided_at got) ∙ u) ∙ sym (ap seen_at got)
