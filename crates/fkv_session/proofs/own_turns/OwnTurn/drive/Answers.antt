-- Each reply leaves fewer asks, where it waits for no action.
use Rattle.std.proofs.Common.{◌≡◌, rules}
use Rattle.fkv_session.specs.OwnTurns.{own_turning_next, own_turn_next}
use Rattle.fkv_session.proofs.OwnTurnLeft.{own_turn_fewer}
use Rattle.fkv_session.proofs.own_turns.OwnTurn.drive.Goals as goal

pub returns-clause-fewer : goal.returns-clause-fewer
unfolding own_turning_next
returns-clause-fewer c =
    let now = c.args.self.now in
    let next : c.match-self.self.state ≡ own_turn_next now.shape now.state c.args.reply = search rules in
    λ takes some. rw next (own_turn_fewer now.shape now.state c.args.reply takes some)
