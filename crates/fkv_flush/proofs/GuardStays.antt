-- What an event leaves as it is: the shape and the places, and the flush of each actor that neither begins one nor goes on with it.
use Rattle.std.proofs.Common.{◌≡◌, ◌≢◌, ℕ, ◌⊎◌, List, refl, sym, ap, subst, inl, inr, ◌∙◌, Bool, true, false}
use Rattle.std.specs.Prelude.{Option, Some, None, slice_get, slice_set, nat_le, ◌&&◌, if◌then◌else◌}
use Rattle.fkv_plane.specs.Asked.{word_at}
use Rattle.fkv_epoch.specs.declared.raising.Raising.TheVariants as raise
use Rattle.fkv_epoch.specs.EpochWorld.{EpochMachine, Raises, is_at_rest}
use Rattle.fkv_epoch.proofs.Shown.{item_written, item_spared, same_or, some_same}
use Rattle.fkv_flush.specs.GuardWorld.{Actor, Work, Rests, Reserves, Fills, Invalidates, Shifts, Turns, Flushes, Serves, GuardTask, ToDo, ToReserve, ToFill, ToInvalidate, ToShift, ToTurnPage, ToFlush, ToServe, GuardNow, GuardWorld, GuardEvent, Begins, Resumes, Moves, Calls, Reads, Sees, Publishes, Updates, RaisesReadOnly, RaisesFor, Changes, CallsElse, guard_happens, is_idle, is_none, is_guarded, is_stored, may_work, epoch_step, work_step, started, begun, resumed, moved, called, called_by, read, read_by, seen_again, published, updated, read_only_raised, raised_for, raised_with, changed}
use Rattle.fkv_flush.proofs.GuardWorks.{truth}

abbrev pub SameStore : GuardNow → GuardNow → Type 0
SameStore n m = (m.shape ≡ n.shape) × (m.places ≡ n.places)

same : (n : GuardNow) → SameStore n n
same n = (refl, refl)

either_store : (n m k : GuardNow) (b : Bool) → SameStore n m → SameStore n k → SameStore n (if b then m else k)
either_store n m k true p q = p
either_store n m k false p q = q

-- no event changes the shape or the places
pub same_store : (w : GuardWorld) (event : GuardEvent) → SameStore w.now (guard_happens w event).now
unfolding guard_happens
same_store w (Begins a task) = by (slice_get w.now.actors a)
  where
    by : (found : Option Actor) → SameStore w.now (begun w.now a task found)
    by None = same w.now
    by (Some x) = either_store w.now _ w.now (is_at_rest x.machine && is_idle x.work && may_work w.now a x task) (refl, refl) (refl, refl)
same_store w (Resumes a) = by (slice_get w.now.actors a)
  where
    by : (found : Option Actor) → SameStore w.now (resumed w.now a found)
    by None = same w.now
    by (Some x) = either_store w.now _ w.now (is_idle x.work) (refl, refl) (refl, refl)
same_store w (Moves a) = by (slice_get w.now.actors a)
  where
    by : (found : Option Actor) → SameStore w.now (moved w.now a found)
    by None = same w.now
    by (Some x) = (refl, refl)
same_store w (Calls a done) = by (slice_get w.now.actors a)
  where
    by_work : (x : Actor) (work : Work) → SameStore w.now (called_by w.now a done x work)
    by_work x (Flushes step bytes) = (refl, refl)
    by_work x work = (refl, refl)

    by : (found : Option Actor) → SameStore w.now (called w.now a done found)
    by None = same w.now
    by (Some x) = by_work x x.work
same_store w (Reads a bytes) = by (slice_get w.now.actors a)
  where
    by_work : (x : Actor) (work : Work) → SameStore w.now (read_by w.now a bytes x work)
    by_work x (Serves begin step) = (refl, refl)
    by_work x work = (refl, refl)

    by : (found : Option Actor) → SameStore w.now (read w.now a bytes found)
    by None = same w.now
    by (Some x) = by_work x x.work
same_store w (Sees a sight) = by (slice_get w.now.actors a)
  where
    by : (found : Option Actor) → SameStore w.now (seen_again w.now a sight found)
    by None = same w.now
    by (Some x) = either_store w.now _ w.now (is_none x.undecided) (refl, refl) (refl, refl)
same_store w (Publishes a) = by (slice_get w.now.actors a)
  where
    by : (found : Option Actor) → SameStore w.now (published w.now a found)
    by None = same w.now
    by (Some x) = either_store w.now _ w.now (is_idle x.work) (refl, refl) (refl, refl)
same_store w (Updates a addr word) = by (slice_get w.now.actors a)
  where
    by : (found : Option Actor) → SameStore w.now (updated w.now a addr word found)
    by None = same w.now
    by (Some x) = (refl, refl)
same_store w (RaisesReadOnly a to) = by (slice_get w.now.actors a)
  where
    by : (found : Option Actor) → SameStore w.now (read_only_raised w.now a to found)
    by None = same w.now
    by (Some x) = either_store w.now _ w.now (nat_le to (word_at w.now.words 3)) (refl, refl) (refl, refl)
same_store w (RaisesFor a action) = by (slice_get w.now.actors a)
  where
    by_machine : (x : Actor) (d : EpochMachine) → SameStore w.now (raised_with w.now a action x d)
    by_machine x (Raises (raise.RaisesEpoch slot)) = (refl, refl)
    by_machine x d = (refl, refl)

    by : (found : Option Actor) → SameStore w.now (raised_for w.now a action found)
    by None = same w.now
    by (Some x) = either_store w.now _ w.now (is_idle x.work && is_stored w.now.words action) (by_machine x x.machine) (refl, refl)
same_store w (Changes a place word) = by (slice_get w.now.actors a)
  where
    by : (found : Option Actor) → SameStore w.now (changed w.now a place word found)
    by None = same w.now
    by (Some x) = either_store w.now w.now _ (is_guarded w.now.places place) (refl, refl) (refl, refl)
same_store w (CallsElse call) = same w.now

-- what holds of each actor holds of each but one, and of that one as it is now
pub put_each : (P : ℕ → Actor → Type 0) (actors : List Actor) (a : ℕ) (x x' : Actor) → slice_get actors a ≡ Some x
    → ((b : ℕ) (y : Actor) → slice_get actors b ≡ Some y → b ≢ a → P b y) → P a x'
    → (b : ℕ) (y : Actor) → slice_get (slice_set actors a x') b ≡ Some y → P b y
put_each P actors a x x' got others its b y found = elim (same_or b a) [
  | inl e ↦
      let here : slice_get (slice_set actors a x') b ≡ Some x' = ap (slice_get (slice_set actors a x')) e ∙ item_written actors a x x' got in
      let now : x' ≡ y = some_same x' y (sym here ∙ found) in
      subst (P b) now (subst (λ (c : ℕ). P c x') (sym e) its)
  | inr n ↦ others b y (sym (item_spared actors a b x' n) ∙ found) n
]

abbrev pub is_flush : Work → Bool
is_flush (Flushes step bytes) = true
is_flush work = false

-- a machine that stays a flush is as far as it was
abbrev pub Stays : Work → Work → Type 0
Stays was now = (now ≡ was) ⊎ (is_flush now ≡ false)

-- an actor was there before, and its flush is as far as it was
abbrev pub StaysAt : List Actor → ℕ → Actor → Type 0
StaysAt was b now = (y : Actor) × (slice_get was b ≡ Some y) × Stays y.work now.work

abbrev pub AllStay : List Actor → List Actor → Type 0
AllStay was now = (b : ℕ) (y : Actor) → slice_get now b ≡ Some y → StaysAt was b y

all_same : (actors : List Actor) → AllStay actors actors
all_same actors b y found = (y, found, inl refl)

put_stay : (actors : List Actor) (a : ℕ) (x x' : Actor) → slice_get actors a ≡ Some x → Stays x.work x'.work → AllStay actors (slice_set actors a x')
put_stay actors a x x' got stays = put_each (StaysAt actors) actors a x x' got (λ b y found n. (y, found, inl refl)) (x, got, stays)

either_stay : (actors : List Actor) (n m : GuardNow) (b : Bool) → AllStay actors n.actors → AllStay actors m.actors → AllStay actors (if b then n else m).actors
either_stay actors n m true p q = p
either_stay actors n m false p q = q

-- an event by which no flush begins or goes on
abbrev pub is_quiet : GuardEvent → Bool
is_quiet (Begins a ToFlush) = false
is_quiet (Moves a) = false
is_quiet (Calls a done) = false
is_quiet event = true

begins_none : (n : GuardNow) (x : Actor) (a : ℕ) (task : GuardTask) → is_quiet (Begins a task) ≡ true → is_flush (started n x task).work ≡ false
begins_none n x a (ToDo task) quiet = refl
begins_none n x a (ToReserve bound) quiet = refl
begins_none n x a (ToFill its_words) quiet = refl
begins_none n x a (ToInvalidate header) quiet = refl
begins_none n x a ToShift quiet = refl
begins_none n x a (ToTurnPage form tail) quiet = refl
begins_none n x a ToFlush quiet = cc
begins_none n x a (ToServe begin) quiet = refl

pub quiet_stays : (w : GuardWorld) (event : GuardEvent) → is_quiet event ≡ true → AllStay w.now.actors (guard_happens w event).now.actors
unfolding guard_happens
quiet_stays w (Begins a task) quiet = by (slice_get w.now.actors a) refl
  where
    by : (found : Option Actor) → slice_get w.now.actors a ≡ found → AllStay w.now.actors (begun w.now a task found).actors
    by None got = all_same w.now.actors
    by (Some x) got = either_stay w.now.actors _ w.now (is_at_rest x.machine && is_idle x.work && may_work w.now a x task) (put_stay w.now.actors a x (started w.now x task) got (inr (begins_none w.now x a task quiet))) (all_same w.now.actors)
quiet_stays w (Resumes a) quiet = by (slice_get w.now.actors a) refl
  where
    by : (found : Option Actor) → slice_get w.now.actors a ≡ found → AllStay w.now.actors (resumed w.now a found).actors
    by None got = all_same w.now.actors
    by (Some x) got = either_stay w.now.actors _ w.now (is_idle x.work) (put_stay w.now.actors a x _ got (inl refl)) (all_same w.now.actors)
quiet_stays w (Moves a) quiet = cc
quiet_stays w (Calls a done) quiet = cc
quiet_stays w (Reads a bytes) quiet = by (slice_get w.now.actors a) refl
  where
    by_work : (x : Actor) (work : Work) → slice_get w.now.actors a ≡ Some x → AllStay w.now.actors (read_by w.now a bytes x work).actors
    by_work x (Serves begin step) got = put_stay w.now.actors a x _ got (inr refl)
    by_work x work got = all_same w.now.actors

    by : (found : Option Actor) → slice_get w.now.actors a ≡ found → AllStay w.now.actors (read w.now a bytes found).actors
    by None got = all_same w.now.actors
    by (Some x) got = by_work x x.work got
quiet_stays w (Sees a sight) quiet = by (slice_get w.now.actors a) refl
  where
    by : (found : Option Actor) → slice_get w.now.actors a ≡ found → AllStay w.now.actors (seen_again w.now a sight found).actors
    by None got = all_same w.now.actors
    by (Some x) got = either_stay w.now.actors _ w.now (is_none x.undecided) (put_stay w.now.actors a x _ got (inl refl)) (all_same w.now.actors)
quiet_stays w (Publishes a) quiet = by (slice_get w.now.actors a) refl
  where
    by : (found : Option Actor) → slice_get w.now.actors a ≡ found → AllStay w.now.actors (published w.now a found).actors
    by None got = all_same w.now.actors
    by (Some x) got = either_stay w.now.actors _ w.now (is_idle x.work) (put_stay w.now.actors a x _ got (inl refl)) (all_same w.now.actors)
quiet_stays w (Updates a addr word) quiet = by (slice_get w.now.actors a) refl
  where
    by : (found : Option Actor) → slice_get w.now.actors a ≡ found → AllStay w.now.actors (updated w.now a addr word found).actors
    by None got = all_same w.now.actors
    by (Some x) got = put_stay w.now.actors a x x got (inl refl)
quiet_stays w (RaisesReadOnly a to) quiet = by (slice_get w.now.actors a) refl
  where
    by : (found : Option Actor) → slice_get w.now.actors a ≡ found → AllStay w.now.actors (read_only_raised w.now a to found).actors
    by None got = all_same w.now.actors
    by (Some x) got = either_stay w.now.actors _ w.now (nat_le to (word_at w.now.words 3)) (put_stay w.now.actors a x x got (inl refl)) (all_same w.now.actors)
quiet_stays w (RaisesFor a action) quiet = by (slice_get w.now.actors a) refl
  where
    by_machine : (x : Actor) (d : EpochMachine) → slice_get w.now.actors a ≡ Some x → AllStay w.now.actors (raised_with w.now a action x d).actors
    by_machine x (Raises (raise.RaisesEpoch slot)) got = put_stay w.now.actors a x _ got (inl refl)
    by_machine x d got = all_same w.now.actors

    by : (found : Option Actor) → slice_get w.now.actors a ≡ found → AllStay w.now.actors (raised_for w.now a action found).actors
    by None got = all_same w.now.actors
    by (Some x) got = either_stay w.now.actors _ w.now (is_idle x.work && is_stored w.now.words action) (by_machine x x.machine got) (all_same w.now.actors)
quiet_stays w (Changes a place word) quiet = by (slice_get w.now.actors a) refl
  where
    by : (found : Option Actor) → slice_get w.now.actors a ≡ found → AllStay w.now.actors (changed w.now a place word found).actors
    by None got = all_same w.now.actors
    by (Some x) got = either_stay w.now.actors w.now _ (is_guarded w.now.places place) (all_same w.now.actors) (put_stay w.now.actors a x x got (inl refl))
quiet_stays w (CallsElse call) quiet = all_same w.now.actors

-- a machine that is no flush is none after its step
works_none : (n : GuardNow) (a : ℕ) (x : Actor) (work : Work) → is_flush work ≡ false → is_flush (work_step n a x work).actor.work ≡ false ⊎ ((work_step n a x work).actor.work ≡ x.work)
works_none n a x Rests apart = inr refl
works_none n a x (Reserves step) apart = inl refl
works_none n a x (Fills step) apart = inl refl
works_none n a x (Invalidates step) apart = inl refl
works_none n a x (Shifts s) apart = inl refl
works_none n a x (Turns s) apart = inl refl
works_none n a x (Flushes step bytes) apart = cc
works_none n a x (Serves begin step) apart = inl refl

-- a step of an actor that is not flushing
pub moved_stays : (w : GuardWorld) (a : ℕ) (x : Actor) → slice_get w.now.actors a ≡ Some x → (is_idle x.work ≡ true) ⊎ (is_flush x.work ≡ false) → AllStay w.now.actors (moved w.now a (Some x)).actors
moved_stays w a x got why = elim (truth (is_idle x.work)) [
  | inl e ↦ rw e (put_stay w.now.actors a x (epoch_step w.now a x).actor got (inl refl))
  | inr e ↦ rw e (put_stay w.now.actors a x (work_step w.now a x x.work).actor got (elim why [
    | inl idle ↦ absurd_bool (is_idle x.work) idle e
    | inr apart ↦ elim (works_none w.now a x x.work apart) [ inl none ↦ inr none | inr same_work ↦ inl same_work ]
  ]))
]
  where
    absurd_bool : {X : Type 0} (b : Bool) → b ≡ true → b ≡ false → X
    absurd_bool {X} b t f = cc
