-- The law, by what one event does, and by what holds at every moment.
use Rattle.fkv_keeper.proofs.CheckpointMoves.{each_move}
use Rattle.fkv_keeper.proofs.CheckpointStores.{run_spares, run_stores}
use Rattle.fkv_keeper.proofs.CheckpointUsed.{run_used}
use Rattle.fkv_keeper.proofs.CheckpointWrites.{run_holds, run_writes}
use Rattle.fkv_keeper.proofs.laws.law_of_checkpoints.Goals as goal

pub returns-clause-copied : goal.returns-clause-copied
returns-clause-copied c = λ shape p opening events opened. run_holds shape p opening events opened

pub returns-clause-writes : goal.returns-clause-writes
returns-clause-writes c = λ shape p opening events event opened waits writes. run_writes shape p opening events event opened waits writes

pub returns-clause-used : goal.returns-clause-used
returns-clause-used c = λ shape p opening events opened behind. run_used shape p opening events opened behind

pub returns-clause-copies : goal.returns-clause-copies
returns-clause-copies c = λ shape p s event. (each_move shape p s event).copies

pub returns-clause-lists : goal.returns-clause-lists
returns-clause-lists c = λ shape p s event. (each_move shape p s event).lists

pub returns-clause-parts : goal.returns-clause-parts
returns-clause-parts c = λ shape p s event. (each_move shape p s event).one

pub returns-clause-stores : goal.returns-clause-stores
returns-clause-stores c = λ shape p opening events opened. run_stores shape p opening events opened

pub returns-clause-durable : goal.returns-clause-durable
returns-clause-durable c = λ shape p opening events opened. run_spares shape p opening events opened
