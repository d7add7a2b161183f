-- By what is on paper of phases.
use Rattle.law_commit.proofs.OfFloor.Stands.{floor_stands, views_near}
use Rattle.law_commit.proofs.floor.law_floor_stands.Goals as goal

pub returns-clause-floor : goal.returns-clause-floor
returns-clause-floor c = floor_stands c.law_phases_are_seen.ensures.sound c.law_phases_are_seen.ensures.floor

pub returns-clause-near : goal.returns-clause-near
returns-clause-near c = views_near c.law_phases_are_seen.ensures.sound c.law_phases_are_seen.ensures.floor
