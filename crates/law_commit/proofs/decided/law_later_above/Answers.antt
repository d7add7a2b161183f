-- By the floor of live sessions' views.
use Rattle.law_commit.proofs.OfDecided.Later.{goes_by_later, later_but_polls, makes_later}
use Rattle.law_commit.proofs.decided.law_later_above.Goals as goal

pub returns-clause-above : goal.returns-clause-above
returns-clause-above c = makes_later

pub returns-clause-goes : goal.returns-clause-goes
returns-clause-goes c = goes_by_later c.law_floor_stands.ensures.floor

pub returns-clause-attempts : goal.returns-clause-attempts
returns-clause-attempts c = later_but_polls c.law_floor_stands.ensures.floor
