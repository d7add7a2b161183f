-- By what is on paper of phases.
use Rattle.law_commit.proofs.OfFloor.Stands.{on_paper}
use Rattle.law_commit.proofs.floor.law_lives_are_phases.Goals as goal

pub returns : goal.returns
returns c = on_paper c.law_phases_are_seen.ensures.sound
