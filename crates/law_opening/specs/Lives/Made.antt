-- The steps that calls of the engine make.
use Rattle.std.specs.Prelude.{◌≡◌, ◌↔◌, ⊤, ℕ, Bool, List, [], ◌∷◌}
use Rattle.fkv_core.specs.Worlds.{IsStep, took_place}
use Rattle.fkv_core.specs.declared.events.Event as asked
use Rattle.fkv_disk.specs.Kinds.{Foretold, Kind}
use Rattle.law_refine.specs.Below.fkv_world.World.{Now}
use Rattle.law_opening.specs.Lives.Steps.{Step, device_behind, now_behind}

-- A call of the engine's step has made this one, by its contract: it was asked for some event, which took place as this step says, and the device is as honest as
-- it was.
pub record IsMade {D : Type 0} (honest : D → Type 0) (seen : D → List ℕ) (may_leave : D → List ℕ → Type 0) (failed : D → ℕ) (refuses : D → ℕ → Bool) (expects : D → List Kind → Foretold) (n : Now) (device : D) (step : Step D) : Type 0 where
  pub event : asked.Event
  pub its : IsStep event n step.now step.told (failed device) (failed step.device) (refuses device) (refuses step.device) (expects device) (expects step.device) (honest device) (seen device) (seen step.device) (may_leave device) (may_leave step.device)
  pub took : step.event ≡ took_place event its.granted its.done
  pub stays : honest device ↔ honest step.device

-- so it is of each of them, taken where the one before it stood
abbrev pub AllMade : {D : Type 0} → (D → Type 0) → (D → List ℕ) → (D → List ℕ → Type 0) → (D → ℕ) → (D → ℕ → Bool) → (D → List Kind → Foretold) → Now → D → List (Step D) → Type 0
AllMade honest seen may_leave failed refuses expects n device [] = ⊤
AllMade honest seen may_leave failed refuses expects n device (step ∷ before) =
    IsMade honest seen may_leave failed refuses expects (now_behind n before) (device_behind device before) step × AllMade honest seen may_leave failed refuses expects n device before
