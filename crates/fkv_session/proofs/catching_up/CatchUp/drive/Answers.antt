-- Each reply leaves fewer asks.
use Rattle.std.proofs.Common.{◌≡◌, rules}
use Rattle.fkv_session.specs.CatchingUp.{catching_next, catching_requests, catch_next, catch_requests}
use Rattle.fkv_session.proofs.CatchLeft.{catch_stays_fewer}
use Rattle.fkv_session.proofs.catching_up.CatchUp.drive.Goals as goal

pub returns-clause-fewer : goal.returns-clause-fewer
unfolding catching_next catching_requests
returns-clause-fewer c =
    let now = c.args.self.now in
    let requests = c.args.requests.now in
    let next : c.match-self.self.state ≡ catch_next now.places now.bits now.session now.state requests c.args.reply = search rules in
    let marked : c.match-self.requests ≡ catch_requests now.state requests c.args.reply = search rules in
    catch_stays_fewer now.places now.bits now.session now.state requests c.args.reply c.match-self.self.state c.match-self.requests next marked
