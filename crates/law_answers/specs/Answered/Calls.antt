-- How an actor's call is begun, and moved to its end.
use Rattle.std.specs.Prelude.{◌≡◌, ◌<◌, ⊤, ℕ, Bool, List, length, Option}
use Rattle.fkv_disk.specs.Kinds.{Foretold, Kind}
use Rattle.law_opening.specs.Below.fkv_core.Actor.{Actor}
use Rattle.law_opening.specs.Below.fkv_core.Actor.TheVariants.{Session, Keeper}
use Rattle.law_opening.specs.Below.fkv_core.Event.{Event}
use Rattle.law_opening.specs.Below.fkv_core.Event.TheVariants.{Call, Commit, Turn}
use Rattle.law_opening.specs.Below.fkv_core.TheTold.{Told}
use Rattle.law_opening.specs.Below.fkv_core.Alone.{IsMovedAlone}
use Rattle.law_opening.specs.Below.fkv_core.Worlds.{IsStep, WorldModel}
use Rattle.law_opening.specs.Below.fkv_world.World.{Now}

-- the event begins a call of this actor
abbrev pub IsStartOf : Actor → Event → Type 0
IsStartOf (Session number) (Call session its) = session ≡ number
IsStartOf Keeper (Commit kind) = ⊤
IsStartOf Keeper Turn = ⊤
IsStartOf actor its = ⊥

-- there is such an actor: the keeper always is there
abbrev pub IsThere : Now → Actor → Type 0
IsThere n (Session number) = number < length n.sessions
IsThere n Keeper = ⊤

-- What a call of the engine's step has made of a world, and what one of its `finish` has, each by its contract.
abbrev pub IsStepped : {D : Type 0} → (D → Type 0) → (D → List ℕ) → (D → List ℕ → Type 0) → (D → ℕ) → (D → ℕ → Bool) → (D → List Kind → Foretold) → Event → WorldModel D → WorldModel D → Option Told → Type 0
IsStepped honest seen may_leave failed refuses expects event world after told =
    IsStep event world.now after.now told (failed world.device) (failed after.device) (refuses world.device) (refuses after.device) (expects world.device) (expects after.device) (honest world.device) (seen world.device) (seen after.device) (may_leave world.device) (may_leave after.device)

abbrev pub IsFinished : {D : Type 0} → (D → Type 0) → (D → List ℕ) → (D → List ℕ → Type 0) → (D → ℕ) → (D → ℕ → Bool) → Actor → WorldModel D → WorldModel D → Option Told → Type 0
IsFinished honest seen may_leave failed refuses actor world after told =
    IsMovedAlone actor world.now after.now told (failed world.device) (failed after.device) (refuses world.device) (refuses after.device) (honest world.device) (seen world.device) (seen after.device) (may_leave world.device) (may_leave after.device)
