-- What the guard keeps of one step, from before it to behind it.
use Rattle.std.proofs.Common.{◌≡◌, ◌≢◌, ℕ, ◌+◌, ◌*◌, ◌<◌, ◌≤◌, ◌∙◌, ◌⊎◌, refl, sym, ap, subst, arith, inl, inr, List, [], ◌∷◌, Bool, true, false}
use Rattle.std.specs.Prelude.{◌==◌, if◌then◌else◌, Option, Some, None, slice_get}
use Rattle.std.proofs.lemmas.Bool.Decides.{nat_tests}
use Rattle.fkv_plane.specs.declared.places.SharedWord.TheVariants as word
use Rattle.fkv_plane.specs.Asked.{word_at}
use Rattle.fkv_plane.specs.Places.{shared_place, frames_start}
use Rattle.fkv_flush.specs.GuardWorld.{GuardWorld, GuardEvent, Begins, Resumes, Publishes, levels, guard_happens, guard_run}
use Rattle.fkv_flush.specs.Guarded.{IsPermittedEvent, ArePermittedEvents, IsOpenPlace, OpensPage, event_writes}
use Rattle.fkv_flush.proofs.Shown.{IsSound, Spares, unwritten, guards_writes, guards_limit}
use Rattle.fkv_world.specs.World.{Event, Calls, Moves, Commits, Turns, KeeperMoves, Crashes, Now, seat_at, near}
use Rattle.fkv_world.specs.Moves.{session_moved}
use Rattle.fkv_map.specs.declared.operations.Call.{Call}
use Rattle.fkv_session.specs.Sessions.{SessionState, is_busy, session_begun}
use Rattle.law_world.specs.Guarded.GuardEvents.{moved_events, called_events, keeper_number, keeper_now, life_events, guard_events}
use Rattle.law_world.proofs.OfGuarded.OneStep.{IsStep, IsQuiet, by_test}
use Rattle.law_world.proofs.OfGuarded.SessionSteps.{session_steps, called_steps}
use Rattle.law_world.proofs.OfGuarded.KeeperSteps.{keeper_steps, turn_asked_steps}

quiet_same : (w : GuardWorld) (event : GuardEvent) (place : ℕ) → IsQuiet event → word_at (guard_happens w event).now.words place ≡ word_at w.now.words place
quiet_same w (Begins a task) place quiet = unwritten w (Begins a task) place tt
quiet_same w (Resumes a) place quiet = unwritten w (Resumes a) place tt
quiet_same w (Publishes a) place quiet = unwritten w (Publishes a) place tt
quiet_same w event place quiet = absurd quiet

written_or : (found : Option ℕ) (place : ℕ) → (found ≡ Some place) ⊎ Spares found place
written_or None place = inr tt
written_or (Some q) place = by_equal (place == q) refl
  where
    by_equal : (b : Bool) → (place == q) ≡ b → (Some q ≡ Some place) ⊎ (place ≢ q)
    by_equal true e = inl (ap Some (sym (grind (arith, nat_tests, e))))
    by_equal false e = inr (λ same. absurd (grind (arith, nat_tests, e, same)))

one_writes : (w : GuardWorld) (event : GuardEvent) (place : ℕ) → IsSound w → IsPermittedEvent w.now event → frames_start w.now.places ≤ place → word_at (guard_happens w event).now.words place ≢ word_at w.now.words place → IsOpenPlace w place
one_writes w event place sound permitted high changes = elim (written_or (event_writes w.now event) place) [
  | inl writes ↦ guards_writes w event sound permitted place writes high
  | inr spares ↦ absurd (changes (unwritten w event place spares))
]

-- a permitted step that changes a word of a frame changes one of an open place
pub step_writes : (keeper a : ℕ) (w : GuardWorld) (events : List GuardEvent) (place : ℕ) → IsSound w → IsStep keeper a events → ArePermittedEvents w events → frames_start w.now.places ≤ place
    → word_at (guard_run w events).now.words place ≢ word_at w.now.words place → IsOpenPlace w place
unfolding guard_run
step_writes keeper a w [] place sound step permitted high changes = absurd (changes refl)
step_writes keeper a w (event ∷ before) place sound step permitted high changes = elim step.0.place [
  | inl quiet ↦ step_writes keeper a w before place sound step.1 permitted.1 high (λ e. changes (quiet_same (guard_run w before) event place quiet ∙ e))
  | inr first ↦ one_writes w event place sound (subst (λ (b : List GuardEvent). IsPermittedEvent (guard_run w b).now event) first.0 permitted.0) high (subst (λ (b : List GuardEvent). word_at (guard_happens (guard_run w b) event).now.words place ≢ word_at w.now.words place) first.0 changes)
]

-- and one that raises the limit opens the next page
pub step_raises : (keeper a : ℕ) (w : GuardWorld) (events : List GuardEvent) → IsSound w → IsStep keeper a events → (levels w).limit < (levels (guard_run w events)).limit
    → (page : ℕ) × ((levels (guard_run w events)).limit ≡ (page + 1) * w.now.shape.page) × OpensPage w page
unfolding guard_run
step_raises keeper a w [] sound step = λ up. absurd (omega (arith, up))
step_raises keeper a w (event ∷ before) sound step = elim step.0.place [
  | inl quiet ↦ subst (λ (l : ℕ). (levels w).limit < l → (page : ℕ) × (l ≡ (page + 1) * w.now.shape.page) × OpensPage w page) (sym (quiet_same (guard_run w before) event (shared_place word.Limit) quiet)) (step_raises keeper a w before sound step.1)
  | inr first ↦ subst (λ (b : List GuardEvent). (levels w).limit < (levels (guard_happens (guard_run w b) event)).limit → (page : ℕ) × ((levels (guard_happens (guard_run w b) event)).limit ≡ (page + 1) * w.now.shape.page) × OpensPage w page) (sym first.0) (guards_limit w event sound)
]

-- what an event of the engine is, is one step of some actor
pub record IsSteps (keeper : ℕ) (events : List GuardEvent) : Type 0 where
  pub actor : ℕ
  pub step : IsStep keeper actor events

pub called_is : (n : Now) (i : ℕ) (call : Call) (found : Option SessionState) → IsStep (keeper_number n) i (called_events n i call found)
called_is n i call None = tt
called_is n i call (Some s) = by_test (keeper_number n) i (is_busy s.step) [] _ tt (called_steps (keeper_number n) (seat_at n i) (session_begun (seat_at n i) s call))

pub moved_is : (n : Now) (i : ℕ) (found : Option SessionState) → IsStep (keeper_number n) i (moved_events n i found)
moved_is n i None = tt
moved_is n i (Some s) = session_steps (keeper_number n) (seat_at n i) n.words s (session_moved (seat_at n i) (near n s)).machine

event_is : (n : Now) (read : List ℕ) (event : Event) → IsSteps (keeper_number n) (life_events n read event)
unfolding life_events
event_is n read (Calls i call) = record { actor = i; step = called_is n i call (slice_get n.sessions i) }
event_is n read (Moves i) = record { actor = i; step = moved_is n i (slice_get n.sessions i) }
event_is n read Turns = record { actor = keeper_now n; step = turn_asked_steps (keeper_number n) n.keeper }
event_is n read (KeeperMoves granted done) = record { actor = keeper_now n; step = keeper_steps (keeper_number n) n.shape n.places granted done read n.keeper n.words }
event_is n read (Commits kind) = record { actor = keeper_number n; step = tt }
event_is n read Crashes = record { actor = keeper_number n; step = tt }

pub is_steps : (n : Now) (read : List ℕ) (event : Event) → IsSteps (keeper_number n) (guard_events n read event)
is_steps n read event = by_crash n.crashed
  where
    by_crash : (b : Bool) → IsSteps (keeper_number n) (if b then [] else life_events n read event)
    by_crash true = record { actor = keeper_number n; step = tt }
    by_crash false = event_is n read event
