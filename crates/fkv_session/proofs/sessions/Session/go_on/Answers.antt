-- Each reply leaves fewer asks, where it waits for no action.
use Rattle.std.proofs.Common.{◌≡◌, rules}
use Rattle.fkv_session.specs.Sessions.{session_next}
use Rattle.fkv_session.proofs.SessionLeft.{session_fewer}
use Rattle.fkv_session.proofs.sessions.Session.go_on.Goals as goal

pub returns-clause-fewer : goal.returns-clause-fewer
returns-clause-fewer c =
    let now = c.args.self.now in
    let next : c.go_on-self-inside.new.self.state ≡ session_next now.seat now.state c.args.reply = search rules in
    λ takes some. rw next (session_fewer now.seat now.state c.args.reply takes some)
