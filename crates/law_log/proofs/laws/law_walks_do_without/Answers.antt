-- The law, by what a walk goes by at each moment.
use Rattle.law_log.proofs.Begins.{walk_begins, stays_walk, absent_below}
use Rattle.law_log.proofs.laws.law_walks_do_without.Goals as goal

pub returns-clause-begin : goal.returns-clause-begin
returns-clause-begin c = walk_begins

pub returns-clause-stays : goal.returns-clause-stays
returns-clause-stays c = λ home m version opening later before floor key from opened enabled walks.
    (stays_walk home m version opening opened floor key from later before enabled (record { over = walks.0; within = walks.1; live = walks.2 })).live

pub returns-clause-below : goal.returns-clause-below
returns-clause-below c = λ home floor log key from chains none within low live. absent_below home floor log key from chains none low live
