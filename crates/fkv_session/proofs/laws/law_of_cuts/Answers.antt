-- The cut words and the owing word, by what holds at every moment.
use Rattle.fkv_session.proofs.CutsTold.{run_cuts}
use Rattle.fkv_session.proofs.EpochLast.{run_epoch}
use Rattle.fkv_session.proofs.MarkRuns.{run_stores, run_told_marks}
use Rattle.fkv_session.proofs.OwingNear.{run_near}
use Rattle.fkv_session.proofs.Sleeps.{run_leaves, run_sleeps, run_unprotected}
use Rattle.fkv_session.proofs.ToldInOrder.{run_order}
use Rattle.fkv_session.proofs.laws.law_of_cuts.Goals as goal

pub returns-clause-takes_up : goal.returns-clause-takes_up
returns-clause-takes_up c = λ seat opening events cause opened catching. run_cuts seat opening events cause opened catching

pub returns-clause-stores : goal.returns-clause-stores
returns-clause-stores c = λ seat opening events opened some. run_stores seat opening events opened some

pub returns-clause-told : goal.returns-clause-told
returns-clause-told c = λ seat opening first events serial opened some rests left. run_told_marks seat opening first events serial opened some rests left

pub returns-clause-asleep : goal.returns-clause-asleep
returns-clause-asleep c = λ seat opening first events opened asleep other. run_sleeps seat opening first events opened asleep other

pub returns-clause-in_order : goal.returns-clause-in_order
returns-clause-in_order c = λ seat opening first events serial opened some left. run_order seat opening first events serial opened some left

pub returns-clause-epoch_last : goal.returns-clause-epoch_last
returns-clause-epoch_last c = λ seat opening events cause opened catching other. run_epoch seat opening events cause opened catching other

pub returns-clause-polls_owing : goal.returns-clause-polls_owing
returns-clause-polls_owing c = λ seat opening first events index serial opened some stores left. rw stores (run_near seat opening first events index serial opened some stores left)

pub returns-clause-leaves : goal.returns-clause-leaves
returns-clause-leaves c = λ seat opening first events opened leaves. run_leaves seat opening first events opened leaves

pub returns-clause-unprotected : goal.returns-clause-unprotected
returns-clause-unprotected c = λ seat opening first events opened asleep other. run_unprotected seat opening first events opened asleep other
