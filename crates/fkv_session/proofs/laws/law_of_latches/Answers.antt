-- The shares of latches, by what holds at every moment.
use Rattle.fkv_session.proofs.Latched.{run_prepared}
use Rattle.fkv_session.proofs.Shared.{run_accounts, run_updates}
use Rattle.fkv_session.proofs.SharesBack.{run_back}
use Rattle.fkv_session.proofs.laws.law_of_latches.Goals as goal

pub returns-clause-updates : goal.returns-clause-updates
returns-clause-updates c = λ seat opening events opened its. run_updates seat opening events opened its

pub returns-clause-accounts : goal.returns-clause-accounts
returns-clause-accounts c = λ seat opening events place opened its rests. run_accounts seat opening events place opened its rests

pub returns-clause-prepare : goal.returns-clause-prepare
returns-clause-prepare c = λ seat session events its idle other none rests prepare. run_prepared seat session events its idle other none rests prepare

pub returns-clause-gives_back : goal.returns-clause-gives_back
returns-clause-gives_back c = λ seat opening events place reply opened its adds busy. run_back seat opening events place reply opened its adds busy
