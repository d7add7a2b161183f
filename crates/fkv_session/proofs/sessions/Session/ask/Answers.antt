-- It asks just where it has asks left.
use Rattle.std.proofs.Common.{rules}
use Rattle.fkv_session.proofs.SessionLeft.{session_asked_left}
use Rattle.fkv_session.proofs.sessions.Session.ask.Goals as goal

pub returns-clause-asks : goal.returns-clause-asks
returns-clause-asks c = session_asked_left c.args.self.now.seat c.args.self.now.state c.same_ask.result (search rules)
