-- Whether calls are left behind the next one is told by its place.
use Rattle.std.proofs.Common.{sym, ap, ◌∙◌, nat_lt}
use Rattle.fkv_playing.proofs.Queuing.{steps_left}
use Rattle.fkv_playing.proofs.queues.Queue.has_steps.Goals as goal

pub returns-else-is_some : goal.returns-else-is_some
returns-else-is_some c =
    let queue = c.self.inside in
    let none = sym c.is_some.ensures ∙ c.if-is_some.false in
    rw (← c.self.view_is) (ap (nat_lt queue.next) (c.len.ensures ∙ queue.calls.ok.0) ∙ steps_left queue.hand queue.calls.items queue.next none)
