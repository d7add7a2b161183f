-- The law, over each life.
use Rattle.law_order.proofs.OfReads.LifeReads.{answers_enabled, reads_begin_so, reads_go_on}
use Rattle.law_order.proofs.reads.law_world_reads.Goals as goal

pub returns-clause-begin : goal.returns-clause-begin
returns-clause-begin c = λ life. reads_begin_so life

pub returns-clause-answers : goal.returns-clause-answers
returns-clause-answers c = λ life before event enabled known begin apart truly reads.
    answers_enabled life before event enabled known begin apart truly reads

pub returns-clause-goes : goal.returns-clause-goes
returns-clause-goes c = λ life before event enabled known begin apart truly reads later.
    reads_go_on life before event enabled known begin apart truly reads later
