-- The law, by that of every life, and that nobody stands before a slot in one that was opened.
use Rattle.std.proofs.Common.{arith}
use Rattle.fkv_world.specs.Runs.{run}
use Rattle.law_world.proofs.OfGuarded.Ends.{keeper_ends, life_alone, life_free, life_keeper_alone, life_keeper_stands, life_stands}
use Rattle.law_world.proofs.OfGuarded.FewAsks.{life_few, shape_few}
use Rattle.law_world.proofs.OfGuarded.FewKeeperAsks.{keeper_few, keeper_small}
use Rattle.law_world.proofs.guarded.law_world_ends.Goals as goal

pub returns-clause-stands : goal.returns-clause-stands
returns-clause-stands c = λ first start events session opened. life_stands first start events session opened

pub returns-clause-keeper_stands : goal.returns-clause-keeper_stands
returns-clause-keeper_stands c = λ first start events opened. life_keeper_stands first start events opened

pub returns-clause-session : goal.returns-clause-session
unfolding run
returns-clause-session c = λ first start events session opened alive. c.law_of_ends.ensures.session (run first events) session alive (life_stands first start events session opened)

pub returns-clause-keeper : goal.returns-clause-keeper
unfolding run
returns-clause-keeper c = λ first start events granted done opened alive some. c.law_of_ends.ensures.keeper (run first events) granted done alive some (life_keeper_stands first start events opened)

pub returns-clause-alone : goal.returns-clause-alone
returns-clause-alone c = λ first start events session count opened alive enough. c.law_of_ends.ensures.alone (run first events) session count alive (life_free first start events session count opened) enough

pub returns-clause-keeper_alone : goal.returns-clause-keeper_alone
returns-clause-keeper_alone c = λ first start events moves opened are alive enough.
    let down = keeper_ends c.law_of_ends.ensures.keeper first start events moves opened are alive in omega (arith, down, enough)

pub returns-clause-over : goal.returns-clause-over
returns-clause-over c = λ first start events session count was its opened alive enough found now.
    life_alone first start events session count was its opened found now (c.law_of_ends.ensures.alone (run first events) session count alive (life_free first start events session count opened) enough)

pub returns-clause-keeper_over : goal.returns-clause-keeper_over
returns-clause-keeper_over c = λ first start events moves opened are alive enough.
    let down = keeper_ends c.law_of_ends.ensures.keeper first start events moves opened are alive in
    life_keeper_alone first start events moves opened (omega (arith, down, enough))

pub returns-clause-few : goal.returns-clause-few
returns-clause-few c = λ first start events session store. life_few first start events session store

pub returns-clause-few_of_shape : goal.returns-clause-few_of_shape
returns-clause-few_of_shape c = λ shape. shape_few shape

pub returns-clause-keeper_few : goal.returns-clause-keeper_few
unfolding run
returns-clause-keeper_few c = λ first start events opened. keeper_few c.law_of_ends.ensures.keeper c.law_of_ends.ensures.beside_keeper first start events opened

pub returns-clause-keeper_few_of_store : goal.returns-clause-keeper_few_of_store
returns-clause-keeper_few_of_store c = λ first start opened seeks. keeper_small first.now start opened seeks
