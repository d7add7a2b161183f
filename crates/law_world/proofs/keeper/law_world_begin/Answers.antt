-- By the law of the keeper's slots, of its own run.
use Rattle.fkv_keeper.specs.SweepLaws.{IsBeginAfter, IsSweepAfter}
use Rattle.fkv_keeper.proofs.Shown.{begin_moves, sweep_moves}
use Rattle.law_world.specs.Keeper.Lives.{keeper_after}
use Rattle.law_world.proofs.OfKeeper.OwnRun.{by_move, keeper_begins, keeper_goes_on}
use Rattle.law_world.proofs.keeper.law_world_begin.Goals as goal

pub returns-clause-begins : goal.returns-clause-begins
returns-clause-begins c = λ opening events opened. keeper_begins opening events opened

pub returns-clause-goes_on : goal.returns-clause-goes_on
returns-clause-goes_on c = λ opening later before opened. keeper_goes_on opening later before opened

pub returns-clause-sweeps : goal.returns-clause-sweeps
returns-clause-sweeps c = λ opening events event later before its. by_move (λ s. IsSweepAfter event (keeper_after opening before).step (keeper_after opening before) s) opening event before (sweep_moves opening.now.shape opening.now.places (keeper_after opening before) event)

pub returns-clause-chooses : goal.returns-clause-chooses
returns-clause-chooses c = λ opening events event later before its. by_move (λ s. IsBeginAfter (keeper_after opening before).commit (keeper_after opening before) s) opening event before (begin_moves opening.now.shape opening.now.places (keeper_after opening before) event)
