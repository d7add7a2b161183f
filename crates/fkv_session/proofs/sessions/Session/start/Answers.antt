-- What is told is asked, or answered, just where it is so inside.
use Rattle.fkv_session.proofs.Answered.{answered_left}
use Rattle.fkv_session.proofs.sessions.Session.start.Goals as goal

pub returns-clause-asks : goal.returns-clause-asks
returns-clause-asks c = answered_left _ c.begin-ask.result c.finished.result.now c.answered.result c.answered.ensures c.begin-ask.ensures.asks
