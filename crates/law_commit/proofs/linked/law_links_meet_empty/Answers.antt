-- The law, by the entry that a search which loads no link would find.
use Rattle.law_commit.proofs.OfLinked.Lives.{life_meets}
use Rattle.law_commit.proofs.OfLinked.Since.{life_linked}
use Rattle.law_commit.proofs.linked.law_links_meet_empty.Goals as goal

pub returns-clause-meets : goal.returns-clause-meets
returns-clause-meets c = λ opening start lists ghosts events opened in_order none free leads. life_meets opening start lists ghosts events (record { opened = opened; in_order = in_order; none = none; free = free; leads = leads })

pub returns-clause-linked : goal.returns-clause-linked
returns-clause-linked c = λ opening start lists ghosts events opened in_order none free leads. life_linked opening start lists ghosts events (record { opened = opened; in_order = in_order; none = none; free = free; leads = leads })
