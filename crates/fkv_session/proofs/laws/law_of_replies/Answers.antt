-- What is told of effects, by what holds at every moment.
use Rattle.fkv_session.proofs.RepliedOnce.{run_replies, run_once, run_none, run_own}
use Rattle.fkv_session.proofs.laws.law_of_replies.Goals as goal

pub returns-clause-replies : goal.returns-clause-replies
returns-clause-replies c = λ seat opening events opened. run_replies seat opening events opened

pub returns-clause-once : goal.returns-clause-once
returns-clause-once c = λ seat opening events serial opened rests above below. run_once seat opening events serial opened rests above below

pub returns-clause-no_other : goal.returns-clause-no_other
returns-clause-no_other c = λ seat opening events serial opened rests outside. run_none seat opening events serial opened rests outside

pub returns-clause-operations : goal.returns-clause-operations
returns-clause-operations c = λ seat opening events opened. run_own seat opening events opened
