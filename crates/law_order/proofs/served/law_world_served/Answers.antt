-- The law, by what the guard keeps on the device and by how three words are read back.
use Rattle.law_order.proofs.OfServed.Served.{cells_fit, served_show}
use Rattle.law_order.proofs.served.law_world_served.Goals as goal

pub returns-clause-served : goal.returns-clause-served
returns-clause-served c = λ life events was fits enabled published.
    served_show c.law_world_flushed_is_synced.ensures.calls c.law_mail.ensures.words life events was fits enabled published

pub returns-clause-fit : goal.returns-clause-fit
returns-clause-fit c = λ life events was fits enabled. cells_fit c.law_world_flushed_is_synced.ensures.calls c.law_mail.ensures.words life events was fits
