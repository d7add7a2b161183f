-- Each reply leaves fewer asks.
use Rattle.fkv_sweep.proofs.AsksLeft.{sweep_fewer, sweep_asked}
use Rattle.fkv_sweep.proofs.sweeping.Sweep.drive.Goals as goal

pub returns-clause-left : goal.returns-clause-left
returns-clause-left c = sweep_asked c.keep.new.self c.ask.result c.ask.ensures.ask

pub returns-clause-fewer : goal.returns-clause-fewer
returns-clause-fewer c = λ some none. rw c.keep.ensures.next (sweep_fewer c.args.self.now c.args.reply some none)
