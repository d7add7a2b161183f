-- A world of the engine as a life of a store that was just opened shows it.
use Rattle.std.specs.Prelude.{◌≡◌, ℕ, List}
use Rattle.law_opening.specs.Below.fkv_core.Worlds.{WorldModel}
use Rattle.fkv_disk.specs.Device.{IsAfter}
use Rattle.law_opening.specs.Below.fkv_world.Opened.{IsOpenedWorld}
use Rattle.law_opening.specs.Below.fkv_world.Runs.{World, run}
use Rattle.law_opening.specs.Below.fkv_world.World.{Event}
use Rattle.law_opening.specs.Below.law_world.Guarded.OpenedStore.{IsOpenedStore}

-- These events of that life lead to it, over an honest device, which reads as and may leave what the calls of the life give.
pub record IsOfLife {D : Type 0} (honest : D → Type 0) (seen : D → List ℕ) (may_leave : D → List ℕ → Type 0) (opening : World) (start : ℕ) (events : List Event) (its : WorldModel D) : Type 0 where
  pub opened : IsOpenedWorld opening
  pub store : IsOpenedStore opening start
  pub shows : (run opening events).now ≡ its.now
  pub device : IsAfter (run opening events).past.opened (run opening events).past.calls (seen its.device) (may_leave its.device)
  pub is_honest : honest its.device
