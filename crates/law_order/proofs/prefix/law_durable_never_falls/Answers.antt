-- By the law of what sessions were told as durable, of an opened store.
use Rattle.law_opening.specs.Below.fkv_core.Openings.{beginning}
use Rattle.law_order.proofs.prefix.law_durable_never_falls.Goals as goal

pub returns : goal.returns
returns c = λ its is session seat.
    let opens = c.law_points_open.ensures its.bytes its.opened its.world is.store is.begins in
    c.law_told_never_falls.ensures (beginning its.world its.bytes) its.opened.tail.0 its.events session opens (c.law_cuts_open.ensures.durable its.opened its.world is.begins) seat
