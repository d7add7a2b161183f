-- The law, by what holds at every moment.
use Rattle.fkv_keeper.proofs.BeginMoves.{run_begins}
use Rattle.fkv_keeper.proofs.FewLost.{run_room, run_whole}
use Rattle.fkv_keeper.proofs.SweepMoves.{begin_moves, sweep_moves}
use Rattle.fkv_keeper.proofs.laws.law_of_slots.Goals as goal

pub returns-clause-room : goal.returns-clause-room
returns-clause-room c = λ shape p opening events opened. run_room shape p opening events opened

pub returns-clause-begins : goal.returns-clause-begins
returns-clause-begins c = λ shape p opening events opened. run_begins shape p opening events opened

pub returns-clause-sweeps : goal.returns-clause-sweeps
returns-clause-sweeps c = λ shape p s event. sweep_moves shape p s event

pub returns-clause-chooses : goal.returns-clause-chooses
returns-clause-chooses c = λ shape p s event. begin_moves shape p s event

pub returns-clause-whole : goal.returns-clause-whole
returns-clause-whole c = λ shape p opening events event opened waits writes. run_whole shape p opening events event opened waits writes
