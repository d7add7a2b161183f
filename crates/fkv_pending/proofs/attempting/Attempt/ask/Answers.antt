-- It asks just where it has asks left.
use Rattle.std.proofs.Common.{rules}
use Rattle.fkv_plane.specs.declared.asks.Ask.TheVariants.{Done}
use Rattle.fkv_pending.specs.Attempting.{attempting_ask}
use Rattle.fkv_pending.proofs.AttemptAsks.{attempt_asked_left}
use Rattle.fkv_pending.proofs.attempting.Attempt.ask.Goals as goal

pub returns-in-Ended-clause-asks : goal.returns-in-Ended-clause-asks
unfolding attempting_ask
returns-in-Ended-clause-asks c = attempt_asked_left c.args.self.now.places c.args.self.now.session c.args.self.now.state (Done c.in-Ended.answer) (search rules)

pub returns-in-Looks-clause-asks : goal.returns-in-Looks-clause-asks
unfolding attempting_ask
returns-in-Looks-clause-asks c = attempt_asked_left c.args.self.now.places c.args.self.now.session c.args.self.now.state c.passed.result (search rules)

pub returns-in-Tries-clause-asks : goal.returns-in-Tries-clause-asks
unfolding attempting_ask
returns-in-Tries-clause-asks c = attempt_asked_left c.args.self.now.places c.args.self.now.session c.args.self.now.state c.passed-in-Tries.result (search rules)
