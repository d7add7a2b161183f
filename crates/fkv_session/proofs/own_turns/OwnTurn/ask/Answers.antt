-- It asks just where it has asks left.
use Rattle.std.proofs.Common.{rules}
use Rattle.fkv_plane.specs.declared.asks.Ask.TheVariants.{Done}
use Rattle.fkv_session.specs.OwnTurns.{own_turning_ask}
use Rattle.fkv_session.proofs.OwnTurnLeft.{own_turn_asked_left}
use Rattle.fkv_session.proofs.own_turns.OwnTurn.ask.Goals as goal

pub returns-in-Ended-clause-asks : goal.returns-in-Ended-clause-asks
unfolding own_turning_ask
returns-in-Ended-clause-asks c = own_turn_asked_left c.args.self.now.shape c.args.self.now.state (Done (tt {0})) (search rules)

pub returns-in-Scans-clause-asks : goal.returns-in-Scans-clause-asks
unfolding own_turning_ask
returns-in-Scans-clause-asks c = own_turn_asked_left c.args.self.now.shape c.args.self.now.state (c.passed.result) (search rules)

pub returns-in-Claims-clause-asks : goal.returns-in-Claims-clause-asks
unfolding own_turning_ask
returns-in-Claims-clause-asks c = own_turn_asked_left c.args.self.now.shape c.args.self.now.state (c.passed-in-Claims.result) (search rules)

pub returns-in-Shifts-clause-asks : goal.returns-in-Shifts-clause-asks
unfolding own_turning_ask
returns-in-Shifts-clause-asks c = own_turn_asked_left c.args.self.now.shape c.args.self.now.state (c.passed-in-Shifts.result) (search rules)

pub returns-in-Opens-clause-asks : goal.returns-in-Opens-clause-asks
unfolding own_turning_ask
returns-in-Opens-clause-asks c = own_turn_asked_left c.args.self.now.shape c.args.self.now.state (c.passed-in-Opens.result) (search rules)
