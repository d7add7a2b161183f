-- The law, by what holds at every moment.
use Rattle.fkv_session.proofs.Once.{answered_once}
use Rattle.fkv_session.proofs.Sound.{run_holds}
use Rattle.fkv_session.proofs.laws.law_sessions.Goals as goal

pub returns-clause-serials : goal.returns-clause-serials
returns-clause-serials c = λ seat opening events opened. (run_holds seat opening events opened).books.serials

pub returns-clause-accounts : goal.returns-clause-accounts
returns-clause-accounts c = λ seat opening events opened. (run_holds seat opening events opened).books.accounts

pub returns-clause-order : goal.returns-clause-order
returns-clause-order c = λ seat opening events opened. (run_holds seat opening events opened).books.rising

pub returns-clause-once : goal.returns-clause-once
returns-clause-once c = λ seat opening events serial opened above below. answered_once _ _ _ _ _ serial (run_holds seat opening events opened).books above below
