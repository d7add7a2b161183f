-- The action that it waits for leaves fewer asks.
use Rattle.std.proofs.Common.{◌≡◌, rules}
use Rattle.fkv_session.specs.OwnTurns.{own_turning_given, own_turn_given}
use Rattle.fkv_session.proofs.OwnTurnLeft.{own_turn_given_fewer}
use Rattle.fkv_session.proofs.own_turns.OwnTurn.given.Goals as goal

pub returns-clause-fewer : goal.returns-clause-fewer
unfolding own_turning_given
returns-clause-fewer c =
    let now = c.args.self.now in
    let next : c.match-self.self.state ≡ own_turn_given now.state c.args.action = search rules in
    λ takes. rw next (own_turn_given_fewer now.shape now.state c.args.action takes)
