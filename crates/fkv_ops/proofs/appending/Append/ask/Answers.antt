-- It asks just where it has asks left.
use Rattle.std.proofs.Common.{rules}
use Rattle.fkv_plane.specs.declared.asks.Ask.TheVariants.{Done}
use Rattle.fkv_ops.specs.Appending.{appending_ask}
use Rattle.fkv_ops.proofs.AppendAsks.{asked_left}
use Rattle.fkv_ops.proofs.appending.Append.ask.Goals as goal

pub returns-in-Ended-clause-asks : goal.returns-in-Ended-clause-asks
unfolding appending_ask
returns-in-Ended-clause-asks c = asked_left c.args.self.now.places c.args.self.now.state (Done c.in-Ended.answer) (search rules)

pub returns-in-Reserves-clause-asks : goal.returns-in-Reserves-clause-asks
unfolding appending_ask
returns-in-Reserves-clause-asks c = asked_left c.args.self.now.places c.args.self.now.state c.passed.result (search rules)

pub returns-in-Fills-clause-asks : goal.returns-in-Fills-clause-asks
unfolding appending_ask
returns-in-Fills-clause-asks c = asked_left c.args.self.now.places c.args.self.now.state c.passed-in-Fills.result (search rules)

pub returns-in-Publishes-clause-asks : goal.returns-in-Publishes-clause-asks
unfolding appending_ask
returns-in-Publishes-clause-asks c = asked_left c.args.self.now.places c.args.self.now.state c.passed-in-Publishes.result (search rules)

pub returns-in-Invalidates-clause-asks : goal.returns-in-Invalidates-clause-asks
unfolding appending_ask
returns-in-Invalidates-clause-asks c = asked_left c.args.self.now.places c.args.self.now.state c.passed-in-Invalidates.result (search rules)
