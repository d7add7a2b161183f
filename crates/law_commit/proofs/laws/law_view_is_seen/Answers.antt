-- What a session goes by, and what is coming.
use Rattle.law_commit.proofs.Sights.{view_seen, coming_seen}
use Rattle.law_commit.proofs.Stamps.{sight_stamped}
use Rattle.law_commit.proofs.laws.law_view_is_seen.Goals as goal

pub returns-clause-seen : goal.returns-clause-seen
returns-clause-seen c = λ opening events session first its became. view_seen opening events session first its became

pub returns-clause-coming : goal.returns-clause-coming
returns-clause-coming c = λ opening events session first its became. coming_seen opening events session first its became

pub returns-clause-stamped : goal.returns-clause-stamped
returns-clause-stamped c = λ opening events event session. sight_stamped opening events event session
