-- The action that a turn waits for leaves fewer asks.
use Rattle.std.proofs.Common.{◌≡◌, rules}
use Rattle.fkv_session.specs.Sessions.{sitting_given, session_given}
use Rattle.fkv_session.proofs.SessionLeft.{session_taken_fewer}
use Rattle.fkv_session.proofs.sessions.Session.take.Goals as goal

pub returns-clause-fewer : goal.returns-clause-fewer
unfolding sitting_given
returns-clause-fewer c =
    let now = c.args.self.now in
    let next : c.match-self.self.state ≡ session_given now.seat now.state c.args.action = search rules in
    λ its at takes. rw next (session_taken_fewer now.seat now.state its c.args.action at takes)
