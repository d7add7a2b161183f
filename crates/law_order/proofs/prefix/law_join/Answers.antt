-- By the values that an opened store's log shows.
use Rattle.law_order.proofs.OfPrefix.Join.{joined}
use Rattle.law_order.proofs.prefix.law_join.Goals as goal

pub returns : goal.returns
returns c = λ home image n r store m g is keeps. joined home image n r store m g (c.law_log_opened.ensures.values image r store) (c.law_log_opened.ensures.opened image r store) is keeps
