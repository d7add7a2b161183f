-- By the call of the device that the flush makes next.
use Rattle.std.proofs.Common.{◌∙◌}
use Rattle.std.specs.Prelude.{Some, None}
use Rattle.fkv_maintain.proofs.FlushRests.{due_so}
use Rattle.fkv_maintain.proofs.maintaining.Maintain.is_flush_resting.Goals as goal

pub returns-in-Some : goal.returns-in-Some
returns-in-Some c = let flush = c.self.inside.flush in rw (← c.self.view_is) (c.is_sync.ensures ∙ due_so flush.shape flush.bytes flush.step (Some c.in-Some.ask) c.in-Some.ensures)

pub returns-in-None : goal.returns-in-None
returns-in-None c = let flush = c.self.inside.flush in rw (← c.self.view_is) (due_so flush.shape flush.bytes flush.step None c.in-None.ensures)
