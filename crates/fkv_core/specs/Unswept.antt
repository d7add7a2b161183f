-- Lives in which the keeper sweeps nothing, as those are that the engine's steps lead on without a `SweepMove`. Their logs begin where they did.
use Rattle.std.specs.Prelude.{◌≡◌, ⊤, List, [], ◌∷◌}
use Rattle.fkv_keeper.specs.declared.keepers.Keeping.TheVariants.{Sweeps}
use Rattle.fkv_world.specs.Opened.{IsOpenedWorld}
use Rattle.fkv_world.specs.Runs.{World, run}
use Rattle.fkv_world.specs.World.{Event}

-- behind none of these events a sweep is under way
abbrev pub NeverSweeps : World → List Event → Type 0
NeverSweeps opening [] = ⊤
NeverSweeps opening (event ∷ before) = ((run opening (event ∷ before)).now.keeper.step ≡ Sweeps → ⊥) × NeverSweeps opening before

-- the log of the newest finished commit begins where it did as the store was opened
abbrev pub BeginStays : World → List Event → Type 0
BeginStays opening events = (run opening events).now.keeper.last.begin.0 ≡ opening.now.keeper.last.begin.0

abbrev pub UnsweptLivesKeepBegin : Type 0
UnsweptLivesKeepBegin = (opening : World) (events : List Event) → IsOpenedWorld opening → NeverSweeps opening events → BeginStays opening events
