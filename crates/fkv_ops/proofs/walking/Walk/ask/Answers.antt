-- It asks just where it has asks left.
use Rattle.std.proofs.Common.{rules}
use Rattle.fkv_plane.specs.declared.asks.Ask.TheVariants.{Done}
use Rattle.fkv_ops.specs.declared.walking.WalkAnswer.TheVariants.{Found}
use Rattle.fkv_ops.specs.Walking.{walking_ask}
use Rattle.fkv_ops.proofs.WalkAsks.{asked_left}
use Rattle.fkv_ops.proofs.walking.Walk.ask.Goals as goal

pub returns-in-Ended-clause-asks : goal.returns-in-Ended-clause-asks
unfolding walking_ask
returns-in-Ended-clause-asks c = asked_left c.args.self.now.places c.args.self.now.state (Done c.in-Ended.answer) (search rules)

pub returns-in-Finds-clause-asks : goal.returns-in-Finds-clause-asks
unfolding walking_ask
returns-in-Finds-clause-asks c = asked_left c.args.self.now.places c.args.self.now.state c.passed.result (search rules)

pub returns-in-Meets-clause-asks : goal.returns-in-Meets-clause-asks
unfolding walking_ask
returns-in-Meets-clause-asks c = asked_left c.args.self.now.places c.args.self.now.state c.passed-in-Meets.result (search rules)

pub returns-in-HasFound-clause-asks : goal.returns-in-HasFound-clause-asks
unfolding walking_ask
returns-in-HasFound-clause-asks c = asked_left c.args.self.now.places c.args.self.now.state (Done (Found c.in-HasFound.addr c.in-HasFound.version)) (search rules)
