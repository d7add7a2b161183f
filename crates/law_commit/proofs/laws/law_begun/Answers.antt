-- The commits that have begun.
use Rattle.law_commit.proofs.Begins.{life_on, life_rise, life_then}
use Rattle.law_commit.proofs.LifeBegun.{life_stands, life_turn}
use Rattle.law_commit.proofs.NewestWritten.{life_written}
use Rattle.law_commit.proofs.ToldFinished.{life_finished}
use Rattle.law_commit.proofs.NextNumbers.{numbers_in_turn}
use Rattle.law_commit.proofs.OfPhases.LifeStages.{life_staged}
use Rattle.law_commit.proofs.Specified.{begun_stay}
use Rattle.law_commit.proofs.laws.law_begun.Goals as goal

pub returns-clause-begun : goal.returns-clause-begun
returns-clause-begun c = λ opening events opened. life_stands opening events opened

pub returns-clause-written : goal.returns-clause-written
returns-clause-written c = λ opening events opened stores. life_written opening events opened stores

pub returns-clause-begins : goal.returns-clause-begins
returns-clause-begins c = λ opening events b opened there. life_then opening events b opened there

pub returns-clause-on : goal.returns-clause-on
returns-clause-on c = λ opening events b opened there. life_on opening events b opened there

pub returns-clause-rise : goal.returns-clause-rise
returns-clause-rise c = λ opening events opened. life_rise opening events opened

pub returns-clause-stay : goal.returns-clause-stay
returns-clause-stay c = λ opening events b opened specified there. begun_stay opening events b opened specified there

pub returns-clause-in_turn : goal.returns-clause-in_turn
returns-clause-in_turn c = λ opening start events opened guarded rests. life_turn opening events opened (numbers_in_turn opening events opened (life_staged opening start events guarded opened rests).rests)

pub returns-clause-finished : goal.returns-clause-finished
returns-clause-finished c = λ opening events opened. life_finished opening events opened

pub returns-clause-numbers : goal.returns-clause-numbers
returns-clause-numbers c = λ opening start events opened guarded rests. numbers_in_turn opening events opened (life_staged opening start events guarded opened rests).rests
