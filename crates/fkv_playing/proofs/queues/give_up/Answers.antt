-- One queue more has no call in hand.
use Rattle.std.proofs.Common.{ap, sym, ◌∙◌, length, arith}
use Rattle.std.proofs.lemmas.List.Edits.{map_over_more}
use Rattle.std.specs.List.{slice_set}
use Rattle.fkv_playing.specs.Queues.{given_up}
use Rattle.fkv_playing.proofs.queues.give_up.Goals as goal

pub loop-queue-preserved : goal.loop-queue-preserved
loop-queue-preserved c =
    let queues = c.args.queues.now.items in
    let items = c.loop-queue.queue-items in
    let place = c.loop-queue.queue-index in
    let queue = c.queue-item.result in
    ap (slice_set items place) (ap given_up c.queue.view_is ∙ ap given_up (sym c.queue-item.is))
    ∙ map_over_more given_up queues items place queue (omega (arith, c.deref_mut-queue-items.ensures.len, c.args.queues.now.ok.0, ap length c.deref_mut-queue-items.ensures.value)) c.loop-queue.invariant c.queue-item.is
