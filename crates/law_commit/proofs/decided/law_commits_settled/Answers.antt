-- By the floor, and by where what is on paper has the tail.
use Rattle.law_commit.proofs.OfDecided.Ends.{settled_end, settled_first}
use Rattle.law_commit.proofs.decided.law_commits_settled.Goals as goal

pub returns-clause-first : goal.returns-clause-first
returns-clause-first c = settled_first c.law_phases_are_seen.ensures.sound c.law_floor_stands.ensures.floor

pub returns-clause-end : goal.returns-clause-end
returns-clause-end c = settled_end c.law_phases_are_seen.ensures.sound c.law_floor_stands.ensures.floor
