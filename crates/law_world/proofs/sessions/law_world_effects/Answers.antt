-- The history of a session, by what its own run has told.
use Rattle.law_world.proofs.OfSessions.Effects.{life_made}
use Rattle.law_world.proofs.sessions.law_world_effects.Goals as goal

pub returns : goal.returns
returns c = λ opening events session first its became. life_made opening events session first its became
