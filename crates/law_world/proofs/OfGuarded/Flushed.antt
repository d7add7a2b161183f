-- In a life the keeper alone flushes; so what is flushed is synced by the calls of the guard's run, and what stands below the safe read-only offset stays.
use Rattle.std.proofs.Common.{◌≡◌, ℕ, ◌<◌, ◌∙◌, refl, sym, subst, arith, List, [], ◌∷◌, ◌++◌}
use Rattle.fkv_base.specs.declared.shapes.Shape.{Shape}
use Rattle.fkv_plane.specs.declared.places.Places.{Places}
use Rattle.fkv_plane.specs.declared.places.RecordWord.{RecordWord}
use Rattle.fkv_flush.specs.GuardFlushed.{IsSynced, OneFlushes, calls_made, stands}
use Rattle.fkv_flush.specs.GuardLevels.{levels_of}
use Rattle.fkv_flush.specs.Guarded.{ArePermittedEvents}
use Rattle.fkv_flush.specs.GuardWorld.{GuardWorld, GuardEvent, guard_run}
use Rattle.fkv_flush.proofs.Shown.{IsSound, run_sound, opening_sound, events_calm, steady, stood_open, same_shape, run_flushed, opening_flushed, is_synced}
use Rattle.fkv_world.specs.World.{Event}
use Rattle.fkv_world.specs.Runs.{World, run, read_by_keeper}
use Rattle.fkv_world.proofs.Shown.{places_stay}
use Rattle.law_world.specs.Guarded.GuardEvents.{actor_count, keeper_number, guard_events, mapped}
use Rattle.law_world.specs.Guarded.Shows.{IsOpened, ArePermitted, guard_opening}
use Rattle.law_world.proofs.OfGuarded.Permitted.{life_permitted}
use Rattle.law_world.proofs.OfGuarded.Kept.{is_steps}
use Rattle.law_world.proofs.OfGuarded.OneStep.{flush_alone}
use Rattle.law_world.proofs.OfGuarded.Worlds.{life_shows, runs_on}

both : (keeper : ℕ) (later before : List GuardEvent) → OneFlushes keeper later → OneFlushes keeper before → OneFlushes keeper (later ++ before)
both keeper [] before a b = b
both keeper (event ∷ later) before a b = (a.0, both keeper later before a.1 b)

-- no other actor flushes
pub life_alone : (first : World) (events : List Event) → OneFlushes (keeper_number first.now) (mapped first events)
unfolding mapped
life_alone first [] = tt
life_alone first (event ∷ before) =
    let b : World = run first before in
    let its : List GuardEvent = guard_events b.now (read_by_keeper b) event in
    let steps = is_steps b.now (read_by_keeper b) event in
    both (keeper_number first.now) its (mapped first before) (subst (λ (p : Places). OneFlushes p.sessions its) (places_stay first before) (flush_alone (keeper_number b.now) steps.actor its steps.step)) (life_alone first before)

pub life_synced : (first : World) (start : ℕ) (events : List Event) (opened : List ℕ) → IsOpened first.now start → ArePermitted first events
    → IsSynced first.now.shape opened (calls_made (guard_opening first.now start) (mapped first events)) (stands (guard_opening first.now start) (mapped first events)) start (levels_of (run first events).now.words).flushed
life_synced first start events opened fits permitted =
    let a : ℕ = keeper_number first.now in
    let w : GuardWorld = guard_opening first.now start in
    let its : List GuardEvent = mapped first events in
    let sound = opening_sound first.now.shape first.now.places (actor_count first.now) first.now.words start fits.words in
    let was = opening_flushed a first.now.shape first.now.places (actor_count first.now) first.now.words start opened (stands w []) fits.words in
    let there = subst (λ (s : Shape). IsSynced s opened (calls_made w its) (stands w its) start (levels_of (guard_run w its).now.words).flushed) (same_shape a start opened w sound was its)
    (is_synced a start (guard_run w its).now.shape opened (calls_made w its) (stands w its) (guard_run w its) (run_flushed a start opened w sound was its (life_alone first events) (life_permitted first start events fits permitted))) in
    subst (λ (words : List ℕ). IsSynced first.now.shape opened (calls_made w its) (stands w its) start (levels_of words).flushed) (life_shows first start events fits).words there

-- many events in a row
steps_steady : (w : GuardWorld) (later before : List GuardEvent) (addr : ℕ) (word : RecordWord) → IsSound w → ArePermittedEvents w (later ++ before) → addr < (levels_of (guard_run w before).now.words).safe_read_only
    → stands w (later ++ before) addr word ≡ stands w before addr word
unfolding stands guard_run
steps_steady w [] before addr word sound permitted below = refl
steps_steady w (event ∷ later) before addr word sound permitted below =
    let v : GuardWorld = guard_run w (later ++ before) in
    let rises = (events_calm (guard_run w before) later (run_sound w before sound)).offsets.safe_read_only in
    let low : addr < (levels_of (guard_run (guard_run w before) later).now.words).safe_read_only = omega (arith, below, rises) in
    let here = subst (λ (x : GuardWorld). addr < (levels_of x.now.words).safe_read_only) (sym (runs_on w later before)) low in
    steady v event (stands w (later ++ before)) addr word (run_sound w (later ++ before) sound) permitted.0 here (stood_open w (later ++ before) addr word) ∙ steps_steady w later before addr word sound permitted.1 below

pub life_steady : (first : World) (start : ℕ) (before : List Event) (event : Event) (addr : ℕ) (word : RecordWord) → IsOpened first.now start → ArePermitted first (event ∷ before)
    → addr < (levels_of (run first before).now.words).safe_read_only
    → stands (guard_opening first.now start) (mapped first (event ∷ before)) addr word ≡ stands (guard_opening first.now start) (mapped first before) addr word
unfolding mapped
life_steady first start before event addr word fits permitted below =
    let b : World = run first before in
    let w : GuardWorld = guard_opening first.now start in
    let shows = life_shows first start before fits in
    steps_steady w (guard_events b.now (read_by_keeper b) event) (mapped first before) addr word (opening_sound first.now.shape first.now.places (actor_count first.now) first.now.words start fits.words) (life_permitted first start (event ∷ before) fits permitted)
    (subst (λ (words : List ℕ). addr < (levels_of words).safe_read_only) (sym shows.words) below)
