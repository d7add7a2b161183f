-- The law, by the values that the two logs show.
use Rattle.law_opening.proofs.OfLog.SameMaps.{same_maps}
use Rattle.law_opening.proofs.log.law_maps_alike.Goals as goal

pub returns : goal.returns
returns c = λ image other o store its agree. same_maps image other o
    (c.law_log_opened.ensures.opened image o store).shows
    (c.law_log_opened.ensures.opened other o its).shows
    (c.law_log_opened.ensures.values image o store)
    (c.law_log_opened.ensures.values other o its)
    (c.law_values_alike.ensures image other o store its agree)
