-- What the laws of `effects` say.
use Rattle.std.specs.Prelude.{◌≡◌, ◌∷◌, ◌++◌, ℕ, List, Option, reverse, Bool}
use Rattle.fkv_disk.specs.Kinds.{Foretold, Kind}
use Rattle.law_answers.specs.Answered.Calls.{IsStepped}
use Rattle.law_answers.specs.Answered.Lives.{IsOfLife}
use Rattle.law_opening.specs.Below.fkv_core.Worlds.{WorldModel, took_place}
use Rattle.law_opening.specs.Below.fkv_core.Event as asked
use Rattle.law_opening.specs.Below.fkv_core.TheTold.{Told}
use Rattle.law_opening.specs.Below.fkv_session.Replies.{with_effect}
use Rattle.law_opening.specs.Below.fkv_world.Opened.{IsOpenedWorld}
use Rattle.law_opening.specs.Below.fkv_world.Runs as runs
use Rattle.law_opening.specs.Below.fkv_world.Runs.{run}
use Rattle.law_opening.specs.Below.fkv_world.World.{Event}
use Rattle.law_opening.specs.Below.law_world.Guarded.OpenedStore.{IsOpenedStore}
use Rattle.law_answers.specs.Effects.Kept.{effects_kept, listed, told_behind, told_behind_step, updates}

-- what is told behind an event is what it adds to the history
abbrev pub EventsTellTheirEffects : Type 0
EventsTellTheirEffects =
    (opening : runs.World) (start : ℕ) (before : List Event) (event : Event) → IsOpenedWorld opening → IsOpenedStore opening start
    → updates (run opening (event ∷ before)).past.history ≡ with_effect (told_behind (run opening before).now (run opening (event ∷ before)).now event) (updates (run opening before).past.history)

-- and what is kept of all events is the history
abbrev pub KeptIsTheHistory : Type 0
KeptIsTheHistory =
    (opening : runs.World) (start : ℕ) (events : List Event) → IsOpenedWorld opening → IsOpenedStore opening start
    → effects_kept opening events ≡ updates (run opening events).past.history

-- so it is behind each step of the engine
abbrev pub StepsTellTheirEffects : {D : Type 0} → (D → Type 0) → (D → List ℕ) → (D → List ℕ → Type 0) → (D → ℕ) → (D → ℕ → Bool) → (D → List Kind → Foretold) → WorldModel D → Type 0
StepsTellTheirEffects {D} honest seen may_leave failed refuses expects world =
    (opening : runs.World) (start : ℕ) (events : List Event) (its : asked.Event) (after : WorldModel D) (told : Option Told) → IsOfLife honest seen may_leave opening start events world
    → (step : IsStepped honest seen may_leave failed refuses expects its world after told)
    → updates (run opening (took_place its step.granted step.done ∷ events)).past.history ≡ with_effect (told_behind_step world.now after.now its) (updates (run opening events).past.history)

-- and for who keeps the oldest first
abbrev pub StepsTellOldestFirst : {D : Type 0} → (D → Type 0) → (D → List ℕ) → (D → List ℕ → Type 0) → (D → ℕ) → (D → ℕ → Bool) → (D → List Kind → Foretold) → WorldModel D → Type 0
StepsTellOldestFirst {D} honest seen may_leave failed refuses expects world =
    (opening : runs.World) (start : ℕ) (events : List Event) (its : asked.Event) (after : WorldModel D) (told : Option Told) → IsOfLife honest seen may_leave opening start events world
    → (step : IsStepped honest seen may_leave failed refuses expects its world after told)
    → reverse (updates (run opening (took_place its step.granted step.done ∷ events)).past.history) ≡ reverse (updates (run opening events).past.history) ++ listed (told_behind_step world.now after.now its)
