-- The reads that are answered, by what holds at every moment.
use Rattle.fkv_session.proofs.ReadsTold.{run_called, run_attempted, run_reads}
use Rattle.fkv_session.proofs.laws.law_of_reads.Goals as goal

pub returns-clause-answers : goal.returns-clause-answers
returns-clause-answers c = λ seat opening events opened. run_reads seat opening events opened

pub returns-clause-called : goal.returns-clause-called
returns-clause-called c = λ seat opening events has_shifted opened attempts. run_called seat opening events has_shifted opened attempts

pub returns-clause-polled : goal.returns-clause-polled
returns-clause-polled c = λ seat opening events index opened some polls. run_attempted seat opening events index opened some polls
