-- The bound of a call, by what holds at every moment.
use Rattle.fkv_session.proofs.Bounded.{run_within}
use Rattle.fkv_session.proofs.HandAsks.{run_ended}
use Rattle.fkv_session.proofs.RoomKept.{run_room}
use Rattle.fkv_session.proofs.bounds.law_of_asks.Goals as goal

pub returns-clause-bounded : goal.returns-clause-bounded
returns-clause-bounded c = λ seat opening events of opened asked. run_within seat opening events of opened asked

pub returns-clause-requests : goal.returns-clause-requests
returns-clause-requests c = λ seat opening events opened. (run_room seat opening events opened).few

pub returns-clause-ended : goal.returns-clause-ended
returns-clause-ended c = λ seat opening events opened none. run_ended seat opening events opened.none_in_hand none
