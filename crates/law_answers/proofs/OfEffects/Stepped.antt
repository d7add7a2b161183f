-- So it is behind a step of the engine.
use Rattle.std.proofs.Common.{◌≡◌, ℕ, ◌∙◌, refl, sym, ap, Bool, List, [], ◌∷◌, ◌++◌}
use Rattle.std.specs.Prelude.{Option, Some, None, reverse}
use Rattle.std.proofs.lemmas.List.{append-nil, reverse-append}
use Rattle.fkv_disk.specs.Kinds.{Foretold, Kind}
use Rattle.law_opening.specs.Below.fkv_core.Worlds.{took_place}
use Rattle.law_opening.specs.Below.fkv_core.Event as asked
use Rattle.law_opening.specs.Below.fkv_core.Event.TheVariants as ask
use Rattle.law_opening.specs.Below.fkv_core.Worlds.{WorldModel}
use Rattle.law_opening.specs.Below.fkv_core.TheTold.{Told}
use Rattle.fkv_map.specs.declared.history.HistoryEntry.{HistoryEntry}
use Rattle.law_opening.specs.Below.fkv_session.Replies.{with_effect}
use Rattle.law_answers.specs.Answered.Calls.{IsStepped}
use Rattle.law_answers.specs.Answered.Lives.{IsOfLife}
use Rattle.law_opening.specs.Below.fkv_world.Opened.{IsOpenedWorld}
use Rattle.law_opening.specs.Below.fkv_world.Runs.{World, run}
use Rattle.law_opening.specs.Below.fkv_world.World.{Event, Now}
use Rattle.law_opening.specs.Below.law_world.Guarded.OpenedStore.{IsOpenedStore}
use Rattle.law_answers.specs.Effects.Kept.{listed, told_behind, told_behind_step, updates}

-- what `law_effects_told` says of each event
abbrev pub EffectsTold : Type 0
EffectsTold = (opening : World) (start : ℕ) (before : List Event) (event : Event) → IsOpenedWorld opening → IsOpenedStore opening start
    → updates (run opening (event ∷ before)).past.history ≡ with_effect (told_behind (run opening before).now (run opening (event ∷ before)).now event) (updates (run opening before).past.history)

as_asked : (its : asked.Event) (granted done : Bool) (n after : Now) → told_behind n after (took_place its granted done) ≡ told_behind_step n after its
as_asked (ask.Call number call) granted done n after = refl
as_asked (ask.Move number) granted done n after = refl
as_asked (ask.Commit kind) granted done n after = refl
as_asked ask.Turn granted done n after = refl
as_asked ask.KeeperMove granted done n after = refl
as_asked ask.SweepMove granted done n after = refl
as_asked ask.Crash granted done n after = refl

pub tells_effect : {D : Type 0} (honest : D → Type 0) (seen : D → List ℕ) (may_leave : D → List ℕ → Type 0) (failed : D → ℕ) (refuses : D → ℕ → Bool) (expects : D → List Kind → Foretold) → EffectsTold → (opening : World) (start : ℕ) (events : List Event) (its : asked.Event) (world after : WorldModel D) (told : Option Told)
    → IsOfLife honest seen may_leave opening start events world → (step : IsStepped honest seen may_leave failed refuses expects its world after told)
    → updates (run opening (took_place its step.granted step.done ∷ events)).past.history ≡ with_effect (told_behind_step world.now after.now its) (updates (run opening events).past.history)
tells_effect honest seen may_leave failed refuses expects law opening start events its world after told life step =
    let event : Event = took_place its step.granted step.done in
    let led = step.life life.is_honest opening events life.opened life.shows life.device in
    let tells : told_behind (run opening events).now (run opening (event ∷ events)).now event ≡ told_behind_step world.now after.now its =
    ap (λ (n : Now). told_behind n (run opening (event ∷ events)).now event) life.shows ∙ (ap (λ (n : Now). told_behind world.now n event) led.shows ∙ as_asked its step.granted step.done world.now after.now) in
    law opening start events event life.opened life.store ∙ ap (λ (found : Option HistoryEntry). with_effect found (updates (run opening events).past.history)) tells

-- who keeps the oldest first puts it behind them
appended : (found : Option HistoryEntry) (effects : List HistoryEntry) → reverse (with_effect found effects) ≡ reverse effects ++ listed found
appended None effects = sym (append-nil (reverse effects))
appended (Some its) effects = reverse-append (its ∷ []) effects

pub tells_last : {D : Type 0} (honest : D → Type 0) (seen : D → List ℕ) (may_leave : D → List ℕ → Type 0) (failed : D → ℕ) (refuses : D → ℕ → Bool) (expects : D → List Kind → Foretold) → EffectsTold → (opening : World) (start : ℕ) (events : List Event) (its : asked.Event) (world after : WorldModel D) (told : Option Told)
    → IsOfLife honest seen may_leave opening start events world → (step : IsStepped honest seen may_leave failed refuses expects its world after told)
    → reverse (updates (run opening (took_place its step.granted step.done ∷ events)).past.history) ≡ reverse (updates (run opening events).past.history) ++ listed (told_behind_step world.now after.now its)
tells_last honest seen may_leave failed refuses expects law opening start events its world after told life step =
    ap reverse (tells_effect honest seen may_leave failed refuses expects law opening start events its world after told life step)
    ∙ appended (told_behind_step world.now after.now its) (updates (run opening events).past.history)
