-- What makes the answers true, by what holds at every moment.
use Rattle.fkv_session.proofs.AnswersTrue.{run_durable, run_kind, run_refreshed, run_true, run_woken}
use Rattle.fkv_session.proofs.AtOnce.{begun_at_once}
use Rattle.fkv_session.proofs.AwakeTold.{run_awake}
use Rattle.fkv_session.proofs.answer_laws.law_of_answers.Goals as goal

pub returns-clause-operations : goal.returns-clause-operations
returns-clause-operations c = λ seat buckets opening event before its op opened ends called. run_true seat buckets opening event before its op opened ends called

pub returns-clause-kinds : goal.returns-clause-kinds
returns-clause-kinds c = λ seat opening event before its opened buckets ends. run_kind seat buckets opening event before its opened ends

pub returns-clause-asks_none : goal.returns-clause-asks_none
returns-clause-asks_none c = λ seat session called its ends. begun_at_once seat session called its ends

pub returns-clause-refreshed : goal.returns-clause-refreshed
returns-clause-refreshed c = λ seat opening event before phase version opened buckets ends. run_refreshed seat buckets opening event before phase version opened ends

pub returns-clause-woken : goal.returns-clause-woken
returns-clause-woken c = λ seat opening event before phase version opened buckets ends. run_woken seat buckets opening event before phase version opened ends

pub returns-clause-durable : goal.returns-clause-durable
returns-clause-durable c = λ seat opening event before serial opened buckets ends. run_durable seat buckets opening event before serial opened ends

pub returns-clause-awake : goal.returns-clause-awake
returns-clause-awake c = λ seat opening events opened. run_awake seat opening events opened
