-- What is stored in the phase word.
use Rattle.law_commit.proofs.OwnTurnStores.{own_turn_stores}
use Rattle.law_commit.proofs.PhaseStores.{keeper_stores}
use Rattle.law_commit.proofs.laws.law_phase_stored.Goals as goal

pub returns-clause-keeper : goal.returns-clause-keeper
returns-clause-keeper c = λ opening events granted done opened. keeper_stores opening events granted done opened

pub returns-clause-own_turn : goal.returns-clause-own_turn
returns-clause-own_turn c = λ shape its. own_turn_stores shape its
