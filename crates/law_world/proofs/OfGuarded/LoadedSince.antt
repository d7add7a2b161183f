-- An action that an event claims or runs is of an epoch that was safe before the event, so that all had loaded what they go by after it was raised.
use Rattle.std.proofs.Common.{◌≡◌, ℕ, ◌≤◌, ◌⊎◌, refl, sym, subst, inl, inr, List, [], ◌∷◌, ◌++◌, Bool, true, false}
use Rattle.std.specs.Prelude.{if◌then◌else◌, Option, Some, None, slice_get}
use Rattle.fkv_epoch.specs.EpochWorld.{Claimed, EpochPast, Ran, Sight, claimed_by, past_moved, past_seen, safe_of}
use Rattle.fkv_epoch.specs.EpochWorld as epochs
use Rattle.fkv_epoch.specs.Once.{Among, claims_found}
use Rattle.fkv_epoch.proofs.Shown.{claim_is_safe, safe_is_in_force, safe_is_seen}
use Rattle.fkv_flush.specs.GuardWorld.{Actor, Begins, GuardEvent, GuardWorld, Moves, Publishes, Resumes, Sees, drives_epochs, epoch_now, epoch_world, guard_happens, guard_run, is_none, machine_moved, sight_moved}
use Rattle.fkv_flush.proofs.Shown.{IsSound, machine_at}
use Rattle.fkv_world.specs.Runs.{World, read_by_keeper, run}
use Rattle.fkv_world.specs.World.{Event}
use Rattle.law_world.specs.Guarded.GuardEvents.{guard_events, keeper_number, mapped}
use Rattle.law_world.specs.Guarded.LoadedSince.{HaveLoadedSince}
use Rattle.law_world.specs.Guarded.Shows.{IsOpened, guard_opening, seen_by_guard}
use Rattle.law_world.proofs.OfGuarded.Kept.{is_steps}
use Rattle.law_world.proofs.OfGuarded.OneStep.{IsQuiet, IsStep}
use Rattle.law_world.proofs.OfGuarded.Worlds.{life_shows, runs_on}

-- all have loaded since each safe epoch was raised
pub safe_loaded : (w : GuardWorld) (epoch : ℕ) → IsSound w → epoch ≤ safe_of w.now.words → HaveLoadedSince w epoch
safe_loaded w epoch sound safe = (safe_is_seen (epoch_world w) epoch sound.epochs safe, safe_is_in_force (epoch_world w) epoch sound.epochs safe)

among_either : {X : Type 0} (x : X) (xs ys : List X) → Among x (xs ++ ys) → Among x xs ⊎ Among x ys
among_either x [] ys among = inr among
among_either x (y ∷ xs) ys (inl e) = inl (inl e)
among_either x (y ∷ xs) ys (inr among) = elim (among_either x xs ys among) [ inl here ↦ inl (inr here) | inr there ↦ inr there ]

-- what an ask of an actor claims
move_claims : (w : GuardWorld) (a : ℕ) (claim : Claimed) (found : Option Actor) → IsSound w → slice_get w.now.actors a ≡ found → Among claim (machine_moved w.now a w.past found).claims → claim.epoch ≤ safe_of w.now.words
move_claims w a claim None sound there among = sound.claims_safe claim among
move_claims w a claim (Some x) sound there among = by_driven (drives_epochs x.work) among
  where
    by_driven : (b : Bool) → Among claim (if b then past_moved (epoch_now w.now) a w.past (Some x.machine) else w.past).claims → claim.epoch ≤ safe_of w.now.words
    by_driven false old = sound.claims_safe claim old
    by_driven true either = elim (among_either claim (claimed_by (epoch_now w.now) a x.machine) w.past.claims either) [
      | inl new ↦ claim_is_safe (epoch_world w) (epochs.Moves a) claim sound.epochs (subst (λ (found : Option epochs.EpochMachine). Among claim (claims_found (epoch_now w.now) a found)) (sym (machine_at w.now.actors a x there)) new)
      | inr old ↦ sound.claims_safe claim old
    ]

-- a load claims nothing
sight_claims : (w : GuardWorld) (a : ℕ) (sight : Sight) (claim : Claimed) (found : Option Actor) → Among claim (sight_moved w.now a sight w.past found).claims → Among claim w.past.claims
sight_claims w a sight claim None among = among
sight_claims w a sight claim (Some x) among = by_free (is_none x.undecided) among
  where
    by_free : (b : Bool) → Among claim (if b then past_seen (epoch_now w.now) a sight w.past (Some x.machine) else w.past).claims → Among claim w.past.claims
    by_free true its = its
    by_free false its = its

-- what one of the guard's events claims was safe before it
one_claims : (w : GuardWorld) (event : GuardEvent) (claim : Claimed) → IsSound w → Among claim (guard_happens w event).past.claims → claim.epoch ≤ safe_of w.now.words
unfolding guard_happens
one_claims w (Moves a) claim sound among = move_claims w a claim (slice_get w.now.actors a) sound refl among
one_claims w (Sees a sight) claim sound among = sound.claims_safe claim (sight_claims w a sight claim (slice_get w.now.actors a) among)
one_claims w event claim sound among = sound.claims_safe claim among

-- what only begins a machine, or lets one go on, or publishes a record, claims nothing
quiet_claims : (w : GuardWorld) (event : GuardEvent) (claim : Claimed) → IsQuiet event → Among claim (guard_happens w event).past.claims → Among claim w.past.claims
unfolding guard_happens
quiet_claims w (Begins a task) claim quiet among = among
quiet_claims w (Resumes a) claim quiet among = among
quiet_claims w (Publishes a) claim quiet among = among
quiet_claims w event claim quiet among = absurd quiet

-- so it is of one step of an actor
step_claims : (keeper a : ℕ) (w : GuardWorld) (events : List GuardEvent) (claim : Claimed) → IsSound w → IsStep keeper a events → Among claim (guard_run w events).past.claims → claim.epoch ≤ safe_of w.now.words
unfolding guard_run
step_claims keeper a w [] claim sound step among = sound.claims_safe claim among
step_claims keeper a w (event ∷ before) claim sound step among = elim step.0.place [
  | inl quiet ↦ step_claims keeper a w before claim sound step.1 (quiet_claims (guard_run w before) event claim quiet among)
  | inr first ↦ one_claims w event claim sound (subst (λ (b : List GuardEvent). Among claim (guard_happens (guard_run w b) event).past.claims) first.0 among)
]

-- and of an event of the engine
pub life_on : (first : World) (start : ℕ) (events : List Event) (event : Event)
    → seen_by_guard first start (event ∷ events) ≡ guard_run (seen_by_guard first start events) (guard_events (run first events).now (read_by_keeper (run first events)) event)
unfolding mapped
life_on first start events event = runs_on (guard_opening first.now start) (guard_events (run first events).now (read_by_keeper (run first events)) event) (mapped first events)

pub claim_loaded : (first : World) (start : ℕ) (events : List Event) (event : Event) (claim : Claimed) → IsOpened first.now start → Among claim (seen_by_guard first start (event ∷ events)).past.claims
    → HaveLoadedSince (seen_by_guard first start events) claim.epoch
claim_loaded first start events event claim opened among =
    let b : World = run first events in
    let w : GuardWorld = seen_by_guard first start events in
    let its : List GuardEvent = guard_events b.now (read_by_keeper b) event in
    let sound = (life_shows first start events opened).sound in
    let steps = is_steps b.now (read_by_keeper b) event in
    safe_loaded w claim.epoch sound
    (step_claims (keeper_number b.now) steps.actor w its claim sound steps.step (subst (λ (v : GuardWorld). Among claim v.past.claims) (life_on first start events event) among))

-- who runs an action has claimed it
pub run_loaded : (first : World) (start : ℕ) (events : List Event) (event : Event) (action : Ran) → IsOpened first.now start → Among action (seen_by_guard first start (event ∷ events)).past.runs
    → HaveLoadedSince (seen_by_guard first start events) action.epoch
run_loaded first start events event action opened among =
    claim_loaded first start events event (record { actor = action.actor; slot = action.slot; epoch = action.epoch }) opened ((life_shows first start (event ∷ events) opened).sound.epochs.once.by_the_claimer action among)

pub life_safe_loaded : (first : World) (start : ℕ) (events : List Event) (epoch : ℕ) → IsOpened first.now start → epoch ≤ safe_of (run first events).now.words → HaveLoadedSince (seen_by_guard first start events) epoch
life_safe_loaded first start events epoch opened safe =
    let w : GuardWorld = seen_by_guard first start events in
    let shows = life_shows first start events opened in
    safe_loaded w epoch shows.sound (subst (λ (words : List ℕ). epoch ≤ safe_of words) (sym shows.words) safe)
