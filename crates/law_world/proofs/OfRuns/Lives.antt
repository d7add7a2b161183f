-- A life goes on from where an earlier part of it has led.
use Rattle.std.proofs.Common.{◌≡◌, ◌++◌, ◌∷◌, [], List, refl, ap}
use Rattle.fkv_world.specs.World.{Event}
use Rattle.fkv_world.specs.Runs.{World, happens, run}

pub runs_on : (opening : World) (later before : List Event) → run opening (later ++ before) ≡ run (run opening before) later
unfolding run
runs_on opening [] before = refl
runs_on opening (event ∷ later) before = ap (λ (w : World). happens w event) (runs_on opening later before)
