-- By the law of opened lives, with numbers that are in turn.
use Rattle.law_opening.specs.Lives.Steps.{events_of}
use Rattle.law_order.proofs.in_turn.law_commit_always_stands.Goals as goal

pub returns : goal.returns
returns g c = λ o n steps image from synced lead_on left.
    c.law_opened_commit_stands.ensures.stands o n steps image
    (record { opened = from; synced = synced; lead_on = lead_on; in_turn = c.law_phases_open.ensures.in_turn (g.D.Device.seen c.args.device.now) o n (events_of steps) from.store from.world }) left
