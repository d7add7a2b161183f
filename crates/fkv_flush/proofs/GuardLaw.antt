-- Every run is sound, and what follows from that.
use Rattle.std.proofs.Common.{◌≡◌, ℕ, zero, suc, ◌<◌, ◌≤◌, List, [], ◌∷◌, map, refl, arith, sym, ap, ◌∙◌}
use Rattle.std.specs.Prelude.{Option, Some, None, slice_get, replicate}
use Rattle.fkv_base.specs.declared.shapes.Shape.{Shape}
use Rattle.fkv_plane.specs.declared.places.Places.{Places}
use Rattle.fkv_epoch.specs.declared.protecting.Protecting.TheVariants as protect
use Rattle.fkv_epoch.specs.declared.arming.Arming.TheVariants as arm
use Rattle.fkv_epoch.specs.EpochWorld.{Protects, Arms, Sight, OfReadOnly, OfHead}
use Rattle.fkv_epoch.proofs.Shown.{none_some}
use Rattle.fkv_epoch.proofs.Shown as epochs_runs
use Rattle.fkv_flush.specs.GuardLevels.{levels_of}
use Rattle.fkv_flush.specs.GuardSeen.{LastSeen}
use Rattle.fkv_flush.specs.GuardWorld.{Actor, GuardNow, GuardWorld, GuardEvent, Begins, Resumes, Moves, Calls, Reads, Sees, Publishes, Updates, RaisesReadOnly, RaisesFor, Changes, CallsElse, guard_happens, guard_run}
use Rattle.fkv_flush.specs.Guarded.{seen_at, seen_of, undecided_at, undecided_of, GoesBy, IsOpened, opening, first_actor, IsCovered, UndecidedIsFresh}
use Rattle.fkv_flush.proofs.GuardSound.{IsSound, machine_of, machine_at}
use Rattle.fkv_flush.proofs.GuardMachines.{steady_goes}
use Rattle.fkv_flush.proofs.GuardHappens.{begun_so, resumed_so, moved_sound, called_so, read_so, seen_so, published_so, updated_so, read_only_raised_so, raised_so, changed_so}

-- one event
pub happens_sound : (w : GuardWorld) (event : GuardEvent) → IsSound w → IsSound (guard_happens w event)
unfolding guard_happens
happens_sound w (Begins a task) sound = begun_so w a task (slice_get w.now.actors a) refl sound
happens_sound w (Resumes a) sound = resumed_so w a (slice_get w.now.actors a) refl sound
happens_sound w (Moves a) sound = moved_sound w a (slice_get w.now.actors a) refl sound
happens_sound w (Calls a done) sound = called_so w a done (slice_get w.now.actors a) refl sound
happens_sound w (Reads a bytes) sound = read_so w a bytes (slice_get w.now.actors a) refl sound
happens_sound w (Sees a sight) sound = seen_so w a sight (slice_get w.now.actors a) refl sound
happens_sound w (Publishes a) sound = published_so w a (slice_get w.now.actors a) refl sound
happens_sound w (Updates a addr word) sound = updated_so w a addr word (slice_get w.now.actors a) refl sound
happens_sound w (RaisesReadOnly a to) sound = read_only_raised_so w a to (slice_get w.now.actors a) refl sound
happens_sound w (RaisesFor a action) sound = raised_so w a action (slice_get w.now.actors a) refl sound
happens_sound w (Changes a place word) sound = changed_so w a place word (slice_get w.now.actors a) refl sound
happens_sound w (CallsElse call) sound = sound

-- a whole run
pub run_sound : (w : GuardWorld) (events : List GuardEvent) → IsSound w → IsSound (guard_run w events)
unfolding guard_run
run_sound w [] sound = sound
run_sound w (event ∷ before) sound = happens_sound (guard_run w before) event (run_sound w before sound)

pub replicate_item : {X : Type 0} (n i : ℕ) (x d : X) → slice_get (replicate n x) i ≡ Some d → d ≡ x
replicate_item zero i x d e = cc
replicate_item (suc n) zero x d e = cc
replicate_item (suc n) (suc i) x d e = replicate_item n i x d e

replicate_there : {X : Type 0} (n i : ℕ) (x : X) → i < n → slice_get (replicate n x) i ≡ Some x
replicate_there zero i x h = absurd (omega (arith, h))
replicate_there (suc n) zero x h = refl
replicate_there (suc n) (suc i) x h = replicate_there n i x (omega (arith, h))

map_replicate : {X Y : Type 0} (f : X → Y) (n : ℕ) (x : X) → map f (replicate n x) ≡ replicate n (f x)
map_replicate f zero x = refl
map_replicate f (suc n) x = ap (λ ys. f x ∷ ys) (map_replicate f n x)

-- the store as it is opened
pub opening_sound : (shape : Shape) (places : Places) (actors : ℕ) (words : List ℕ) (start : ℕ) → IsOpened shape places actors words start → IsSound (opening shape places actors words start)
opening_sound shape places actors words start o =
    let n : GuardNow = (opening shape places actors words start).now in
    let first : Actor = first_actor start (levels_of words).closed in
    let machines : map machine_of n.actors ≡ replicate actors (Protects protect.AtRest) = map_replicate machine_of actors first in
    let below : (s : ℕ) → ((seen_of n.actors s).read_only ≤ start) × ((seen_of n.actors s).head ≤ (levels_of words).closed) = λ s. seen_first s (slice_get n.actors s) refl in
    let inside : (s : ℕ) (sight : Sight) → GoesBy n s sight → seen_of n.actors s ≡ first.seen = λ s sight c.
    ap seen_at (replicate_there actors s first (let h = c.is_session in let m = o.epochs.with_others in omega (arith, h, m))) in
    let closed = o.closed in
    let head = o.head in
    let flushed = o.flushed in
    let safe = o.safe_read_only in
    let read_only = o.read_only in
    let tail = o.tail in
    record {
      fits = o.fits;
      enough_words = o.enough_words;
      epochs = rw machines (epochs_runs.opening_sound places.sessions actors words o.epochs);
      guard = record {
        in_order = record {
          closed_below = omega (arith, head);
          head_below = omega (arith, closed, head, flushed);
          flushed_below = omega (arith, flushed, safe);
          safe_below = omega (arith, safe, read_only);
          read_only_below = omega (arith, read_only, tail);
          tail_below = let h = o.tail_below in omega (arith, tail, h);
        };
        cover = let h = o.limit_below in omega (arith, h);
        safe = record {
          read_only = λ s c. let e = ap (λ (y : LastSeen). y.read_only) (inside s OfReadOnly c) in omega (arith, e, safe);
          head = λ s c. let e = ap (λ (y : LastSeen). y.head) (inside s OfHead c) in omega (arith, e);
          read_only_below = λ s. let h = (below s).0 in omega (arith, h, read_only);
          head_below = λ s. let h = (below s).1 in omega (arith, h, head);
        };
        known = λ x among. absurd among;
        fresh = λ s a e. none_undecided s a (slice_get n.actors s) refl e;
      };
      claims_safe = λ y among. absurd among;
      arming = λ a slot c action its home. no_arming a slot c (rw machines at its);
      steady = λ a addr x got u. let same = replicate_item actors a first x got in absurd_undecided x addr (ap (λ (y : Actor). y.undecided) same) u;
      knows = λ a x got. rw (replicate_item actors a first x got) tt;
    }
  where
    seen_first : (s : ℕ) (found : Option Actor) → slice_get (replicate actors (first_actor start (levels_of words).closed)) s ≡ found → ((seen_at found).read_only ≤ start) × ((seen_at found).head ≤ (levels_of words).closed)
    seen_first s None got = (omega arith, omega arith)
    seen_first s (Some x) got =
        let same = replicate_item actors s (first_actor start (levels_of words).closed) x got in
        let r = ap (λ (y : Actor). y.seen.read_only) same in
        let h = ap (λ (y : Actor). y.seen.head) same in
        (omega (arith, r), omega (arith, h))

    absurd_undecided : {X : Type 0} (x : Actor) (addr : ℕ) → x.undecided ≡ None → x.undecided ≡ Some addr → X
    absurd_undecided {X} x addr e u = none_some {Y = X} addr (sym e ∙ u)

    none_undecided : {X : Type 0} (s a : ℕ) (found : Option Actor) → slice_get (replicate actors (first_actor start (levels_of words).closed)) s ≡ found → undecided_at found ≡ Some a → X
    none_undecided {X} s a None got e = none_some {Y = X} a e
    none_undecided {X} s a (Some x) got e = absurd_undecided x a (ap (λ (y : Actor). y.undecided) (replicate_item actors s (first_actor start (levels_of words).closed) x got)) e

    no_arming : {X : Type 0} (a slot c : ℕ) → slice_get (replicate actors (Protects protect.AtRest)) a ≡ Some (Arms (arm.StoresEpoch slot c)) → X
    no_arming {X} a slot c its = not_rest slot c (replicate_item actors a (Protects protect.AtRest) (Arms (arm.StoresEpoch slot c)) its)
      where
        not_rest : (slot c : ℕ) → Arms (arm.StoresEpoch slot c) ≡ Protects protect.AtRest → X
        not_rest slot c e = cc

pub covered : (w : GuardWorld) → IsSound w → IsCovered w
covered w sound =
    let c = sound.guard.cover in
    let o = sound.guard.in_order in
    let h = o.closed_below in
    let f = o.head_below in
    record {
      closed = c;
      flushed = omega (arith, c, h, f);
      seen = λ s g. let i = sound.guard.safe.head s g in omega (arith, c, i);
    }

pub undecided_fresh : (w : GuardWorld) → IsSound w → UndecidedIsFresh w
undecided_fresh w sound = record {
  goes = λ s a sight e. goes s a sight e (slice_get w.now.actors s) refl;
  steady = λ s a x got u. sound.steady s a x got u;
  seen = λ s a e. (sound.guard.fresh s a e).above;
  safe = λ s a e. let f = sound.guard.fresh s a e in let low = sound.guard.safe.read_only s f.counts in let high = f.above in omega (arith, low, high);
  reserved = λ s a e. (sound.guard.fresh s a e).below;
}
  where
    goes : (s a : ℕ) (sight : Sight) → undecided_of w.now.actors s ≡ Some a → (found : Option Actor) → slice_get w.now.actors s ≡ found → GoesBy w.now s sight
    goes s a sight e None got = none_some {Y = GoesBy w.now s sight} a (sym (ap undecided_at got) ∙ e)
    goes s a sight e (Some x) got =
        let c = (sound.guard.fresh s a e).counts in
        record {
          is_session = c.is_session;
          is_protected = c.is_protected;
          machine = x.machine;
          its_machine = machine_at w.now.actors s x got;
          has_loaded = steady_goes x.machine sight (sound.steady s a x got (sym (ap undecided_at got) ∙ e));
        }
