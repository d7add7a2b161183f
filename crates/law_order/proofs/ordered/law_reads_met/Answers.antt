-- The law, at each moment.
use Rattle.law_order.proofs.OfOrdered.Ordered.{life_meets, life_polls, life_polls_gone, life_seek, life_seek_or_told}
use Rattle.law_order.proofs.ordered.law_reads_met.Goals as goal

pub returns-clause-met : goal.returns-clause-met
returns-clause-met c = λ life events given opens cells fits apart.
    life_meets c.law_world_flushed_is_synced.ensures.calls c.law_mail.ensures.words given life opens cells events fits apart

pub returns-clause-seeking_or_told : goal.returns-clause-seeking_or_told
returns-clause-seeking_or_told c = λ life events given opens cells fits apart.
    life_seek_or_told c.law_world_flushed_is_synced.ensures.calls c.law_mail.ensures.words given life opens cells events fits apart

pub returns-clause-tried_if_gone : goal.returns-clause-tried_if_gone
returns-clause-tried_if_gone c = λ life events given opens cells fits apart.
    life_polls_gone c.law_world_flushed_is_synced.ensures.calls c.law_mail.ensures.words given life opens cells events fits apart

pub returns-clause-seeking : goal.returns-clause-seeking
returns-clause-seeking c = λ life events given opens cells fits apart stays.
    life_seek c.law_world_flushed_is_synced.ensures.calls c.law_mail.ensures.words given life opens cells events fits apart stays

pub returns-clause-untried : goal.returns-clause-untried
returns-clause-untried c = λ life events given opens cells fits apart stays.
    life_polls c.law_world_flushed_is_synced.ensures.calls c.law_mail.ensures.words given life opens cells events fits apart stays
