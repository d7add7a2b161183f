-- The law, by the steps of an attempt of a read.
use Rattle.law_local.proofs.OfTries.ReadAttempts.{attempt_reads, reads_begin}
use Rattle.law_local.proofs.tries.law_reads_go_along.Goals as goal

pub returns-clause-begins : goal.returns-clause-begins
returns-clause-begins c = reads_begin

pub returns-clause-goes : goal.returns-clause-goes
returns-clause-goes c = attempt_reads
