-- By the floor of live sessions' views.
use Rattle.law_commit.proofs.OfDecided.Lives.{before_copies, below_end, below_first}
use Rattle.law_commit.proofs.decided.law_commits_decided.Goals as goal

pub returns-clause-first : goal.returns-clause-first
returns-clause-first c = λ opening start ghosts events commit opens seen in_hand from. below_first c.law_floor_stands.ensures.floor opening start ghosts events commit opens seen in_hand from

pub returns-clause-before_copies : goal.returns-clause-before_copies
returns-clause-before_copies c = before_copies c.law_floor_stands.ensures.floor

pub returns-clause-end : goal.returns-clause-end
returns-clause-end c = λ opening start ghosts events commit opens seen in_hand safe. below_end c.law_floor_stands.ensures.floor opening start ghosts events commit opens seen in_hand safe
