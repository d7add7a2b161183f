-- As it begins it asks, and has the asks of all its parts left, at most.
use Rattle.std.proofs.Common.{rules}
use Rattle.fkv_session.specs.OwnTurns.{own_turning_ask}
use Rattle.fkv_session.proofs.OwnTurnLeft.{own_turn_asked_left, own_turn_begun_most}
use Rattle.fkv_session.proofs.own_turns.OwnTurn.start.Goals as goal

pub returns-clause-asks : goal.returns-clause-asks
unfolding own_turning_ask
returns-clause-asks c = own_turn_asked_left c.args.self.now.shape _ c.passed.result (search rules)

pub returns-clause-bounded : goal.returns-clause-bounded
returns-clause-bounded c = own_turn_begun_most c.args.self.now.shape c.args.self.now.state _ (search rules)
