-- What callers see of a session, by what its own run has told.
use Rattle.law_world.proofs.OfSessions.Heard.{life_heard}
use Rattle.law_world.proofs.sessions.law_world_answers.Goals as goal

pub returns : goal.returns
returns c = λ opening events session first its became. life_heard opening events session first its became
