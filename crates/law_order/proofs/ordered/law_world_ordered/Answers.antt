-- The law, event by event.
use Rattle.law_order.proofs.OfOrdered.Ordered.{life_goes}
use Rattle.law_order.proofs.ordered.law_world_ordered.Goals as goal

pub returns : goal.returns
returns c = λ life events given opens cells fits apart.
    life_goes c.law_world_flushed_is_synced.ensures.calls c.law_mail.ensures.words given life opens cells events fits apart
