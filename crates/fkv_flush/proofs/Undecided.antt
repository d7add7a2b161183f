-- An address that becomes undecided is the tail, and so no other session's.
use Rattle.std.proofs.Common.{◌≡◌, ◌≢◌, ℕ, ◌*◌, ◌⊎◌, List, [], ◌∷◌, refl, sym, ap, arith, inl, inr, ◌∙◌, Bool, true, false}
use Rattle.std.specs.Prelude.{Option, Some, None, replicate, slice_get, slice_set, nat_lt, ◌==◌, ◌&&◌, if◌then◌else◌}
use Rattle.std.proofs.lemmas.Bool.Decides.{nat_tests}
use Rattle.fkv_plane.specs.Asked.{reply_to}
use Rattle.fkv_base.specs.declared.shapes.Shape.{Shape}
use Rattle.fkv_plane.specs.declared.actions.Action.{Action}
use Rattle.fkv_plane.specs.declared.places.Places.{Places}
use Rattle.fkv_log.specs.declared.reserving.Reserving.{Reserving}
use Rattle.fkv_log.specs.declared.reserving.Reserving.TheVariants as reserve
use Rattle.fkv_log.specs.declared.invalidating.Invalidating.TheVariants as invalidate
use Rattle.fkv_log.specs.Reserving.{reserve_ask, reserve_next, reserve_next_ask}
use Rattle.fkv_log.specs.Invalidating.{invalidate_next}
use Rattle.fkv_epoch.specs.declared.raising.Raising.TheVariants as raise
use Rattle.fkv_epoch.specs.EpochWorld.{EpochMachine, Raises}
use Rattle.fkv_epoch.proofs.Shown.{item_written, item_spared, same_or, none_some}
use Rattle.fkv_flush.specs.GuardLevels.{levels_of}
use Rattle.fkv_flush.specs.GuardCalm.{actor_of}
use Rattle.fkv_flush.specs.GuardReserved.{UndecidedApart}
use Rattle.fkv_flush.specs.GuardWorld.{Actor, Work, Rests, Reserves, Fills, Invalidates, Shifts, Turns, Flushes, Serves, GuardTask, ToDo, ToReserve, ToFill, ToInvalidate, ToShift, ToTurnPage, ToFlush, ToServe, GuardNow, GuardWorld, GuardEvent, Begins, Resumes, Moves, Calls, Reads, Sees, Publishes, RaisesFor, is_idle, is_stored, started, work_step, reserved_by, guard_happens, guard_run}
use Rattle.fkv_flush.specs.Guarded.{undecided_at, undecided_of, first_actor, opening}
use Rattle.fkv_flush.proofs.GuardSound.{IsSound}
use Rattle.fkv_flush.proofs.GuardWorks.{truth}
use Rattle.fkv_flush.proofs.GuardLaw.{run_sound, replicate_item}
use Rattle.fkv_flush.proofs.OneEvent.{event_near, called_near, read_near, raised_near, each_event}

-- what is undecided then was so before, or is the tail
abbrev pub WasOrIsTail : GuardNow → Actor → Option ℕ → Type 0
WasOrIsTail n x now = (addr : ℕ) → now ≡ Some addr → (x.undecided ≡ Some addr) ⊎ ((levels_of n.words).tail ≡ addr)

-- One step of an actor.
module _ (n : GuardNow) (x : Actor) where
  abbrev Next : Option ℕ → Type 0
  Next = WasOrIsTail n x

  was : Next x.undecided
  was addr u = inl u

  either : (b : Bool) (y z : Actor) → Next y.undecided → Next z.undecided → Next (if b then y else z).undecided
  either true y z p q = p
  either false y z p q = q

  reserved : (room : ℕ) (step : Reserving) → Next (reserved_by x.undecided (reserve_next_ask room step (reply_to n.words (reserve_ask step))))
  unfolding reserve_ask reserve_next reserve_next_ask
  reserved room reserve.AtRest = was
  reserved room (reserve.LoadsLimit bound) = was
  reserved room (reserve.LoadsTail limit) = elim (truth (nat_lt (levels_of n.words).tail limit)) [
    | inl e ↦ rw e was
    | inr e ↦ rw e (elim (truth ((levels_of n.words).tail == room)) [ inl f ↦ rw f was | inr f ↦ rw f was ])
  ]
  reserved room (reserve.TakesTail tail) = elim (truth ((levels_of n.words).tail == tail)) [
    | inl e ↦ rw e (λ addr u. let here : (levels_of n.words).tail ≡ tail = grind (arith, nat_tests, e) in inr (here ∙ cc))
    | inr e ↦ rw e was
  ]

  begun : (task : GuardTask) → Next (started n x task).undecided
  begun (ToDo task) = was
  begun (ToReserve bound) = was
  begun (ToFill its_words) = was
  begun (ToInvalidate header) = was
  begun ToShift = was
  begun (ToTurnPage form tail) = was
  begun ToFlush = was
  begun (ToServe begin) = was

  worked : (a : ℕ) (work : Work) → Next (work_step n a x work).actor.undecided
  unfolding invalidate_next
  worked a Rests = was
  worked a (Reserves step) = reserved (n.shape.disk_pages * n.shape.page) step
  worked a (Fills step) = was
  worked a (Invalidates invalidate.AtRest) = λ addr u. cc
  worked a (Invalidates (invalidate.StoresHeader addr header)) = λ addr u. cc
  worked a (Shifts s) = was
  worked a (Turns s) = was
  worked a (Flushes step bytes) = was
  worked a (Serves begin step) = was

  called : (done : Bool) (work : Work) → Next (called_near n done x work).actor.undecided
  called done (Flushes step bytes) = was
  called done work = was

  read : (bytes : Option (List ℕ)) (work : Work) → Next (read_near n bytes x work).actor.undecided
  read bytes (Serves begin step) = was
  read bytes work = was

  raised : (action : Action) (d : EpochMachine) → Next (raised_near n action x d).actor.undecided
  raised action (Raises (raise.RaisesEpoch slot)) = was
  raised action d = was

  pub next_undecided : (event : GuardEvent) → Next (event_near n event x).actor.undecided
  next_undecided (Begins a task) = either _ (started n x task) x (begun task) was
  next_undecided (Resumes a) = either _ _ x was was
  next_undecided (Moves a) = elim (truth (is_idle x.work)) [ inl e ↦ rw e was | inr e ↦ rw e (worked a x.work) ]
  next_undecided (Calls a done) = called done x.work
  next_undecided (Reads a bytes) = read bytes x.work
  next_undecided (Sees a sight) = either _ _ x was was
  next_undecided (Publishes a) = either _ (record x { undecided = None }) x (λ addr u. cc) was
  next_undecided (RaisesFor a action) = elim (truth (is_idle x.work && is_stored n.words action)) [ inl e ↦ rw e (raised action x.machine) | inr e ↦ rw e was ]
  next_undecided event = was

-- so it is of every session
pub undecided_on : (w : GuardWorld) (event : GuardEvent) (session addr : ℕ) → undecided_of (guard_happens w event).now.actors session ≡ Some addr → (undecided_of w.now.actors session ≡ Some addr) ⊎ ((levels_of w.now.words).tail ≡ addr)
unfolding guard_happens
undecided_on w event session addr =
    each_event (λ m. undecided_of m.actors session ≡ Some addr → (undecided_of w.now.actors session ≡ Some addr) ⊎ ((levels_of w.now.words).tail ≡ addr)) w.now event (λ u. inl u)
    (λ a x its got u.
    let x' : Actor = (event_near w.now event x).actor in
    elim (same_or session a) [
      | inl e ↦ elim (next_undecided w.now x event addr (sym (ap undecided_at (item_written w.now.actors a x x' got)) ∙ (sym (ap (undecided_of (slice_set w.now.actors a x')) e) ∙ u))) [
        | inl o ↦ inl (ap (undecided_of w.now.actors) e ∙ (ap undecided_at got ∙ o))
        | inr t ↦ inr t
      ]
      | inr n ↦ inl (sym (ap undecided_at (item_spared w.now.actors a session x' n)) ∙ u)
    ])

-- two sessions have different addresses still
pub happens_apart : (w : GuardWorld) (event : GuardEvent) → IsSound w → UndecidedApart w.now.actors → UndecidedApart (guard_happens w event).now.actors
unfolding guard_happens
happens_apart w event sound apart = each_event (λ m. UndecidedApart m.actors) w.now event apart moved
  where
    moved : (a : ℕ) (x : Actor) → actor_of event ≡ Some a → slice_get w.now.actors a ≡ Some x → UndecidedApart (slice_set w.now.actors a (event_near w.now event x).actor)
    moved a x its got = λ session other addr mine others. elim (same_or session a) [
      | inl e ↦ elim (same_or other a) [
        | inl f ↦ e ∙ sym f
        | inr m ↦ e ∙ here other addr (sym (ap (undecided_of after) e) ∙ mine) m others
      ]
      | inr n ↦ elim (same_or other a) [
        | inl f ↦ sym (f ∙ here session addr (sym (ap (undecided_of after) f) ∙ others) n mine)
        | inr m ↦ apart session other addr (there session addr n mine) (there other addr m others)
      ]
    ]
      where
        x' : Actor
        x' = (event_near w.now event x).actor

        after : List Actor
        after = slice_set w.now.actors a x'

        there : (session addr : ℕ) → session ≢ a → undecided_of (slice_set w.now.actors a (event_near w.now event x).actor) session ≡ Some addr → undecided_of w.now.actors session ≡ Some addr
        there session addr n u = sym (ap undecided_at (item_spared w.now.actors a session (event_near w.now event x).actor n)) ∙ u

        here : (other addr : ℕ) → undecided_of (slice_set w.now.actors a (event_near w.now event x).actor) a ≡ Some addr → other ≢ a → undecided_of (slice_set w.now.actors a (event_near w.now event x).actor) other ≡ Some addr → a ≡ other
        here other addr mine m others =
            let theirs = there other addr m others in
            elim (next_undecided w.now x event addr (sym (ap undecided_at (item_written w.now.actors a x (event_near w.now event x).actor got)) ∙ mine)) [
              | inl same ↦ apart a other addr (ap undecided_at got ∙ same) theirs
              | inr new ↦ let below = (sound.guard.fresh other addr theirs).below in absurd (omega (arith, below, new))
            ]

pub run_apart : (w : GuardWorld) (events : List GuardEvent) → IsSound w → UndecidedApart w.now.actors → UndecidedApart (guard_run w events).now.actors
unfolding guard_run
run_apart w [] sound apart = apart
run_apart w (event ∷ before) sound apart = happens_apart (guard_run w before) event (run_sound w before sound) (run_apart w before sound apart)

-- nobody has reserved anything in a store that is just opened
pub none_undecided : {X : Type 0} (shape : Shape) (places : Places) (actors : ℕ) (words : List ℕ) (start session addr : ℕ) → undecided_of (opening shape places actors words start).now.actors session ≡ Some addr → X
none_undecided {X} shape places actors words start session addr = none (slice_get (replicate actors (first_actor start (levels_of words).closed)) session) refl
  where
    none : (found : Option Actor) → slice_get (replicate actors (first_actor start (levels_of words).closed)) session ≡ found → undecided_at found ≡ Some addr → X
    none None got u = cc
    none (Some x) got u = let e = ap (λ (y : Actor). y.undecided) (replicate_item actors session (first_actor start (levels_of words).closed) x got) in none_some {Y = X} addr (sym e ∙ u)

pub opening_apart : (shape : Shape) (places : Places) (actors : ℕ) (words : List ℕ) (start : ℕ) → UndecidedApart (opening shape places actors words start).now.actors
opening_apart shape places actors words start session other addr mine others = none_undecided shape places actors words start session addr mine
