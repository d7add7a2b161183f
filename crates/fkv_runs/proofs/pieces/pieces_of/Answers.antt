-- Behind the lines so far stands the next one.
use Rattle.std.proofs.Common.{arith, take}
use Rattle.fkv_runs.proofs.Joining.{so_far}
use Rattle.fkv_runs.proofs.pieces.pieces_of.Goals as goal

pub loop-line-preserved : goal.loop-line-preserved
loop-line-preserved c = so_far c.args.interleaved c.args.lines.now c.loop-line.line-index _ c.put.new.pieces.items (omega arith) (c.in_ok-put.ensures (take c.loop-line.line-index c.args.lines.now) c.loop-line.invariant)
