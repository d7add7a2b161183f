-- It asks just where it has asks left.
use Rattle.std.proofs.Common.{rules}
use Rattle.fkv_plane.specs.declared.asks.Ask.TheVariants.{Store, Done}
use Rattle.fkv_session.specs.CatchingUp.{catching_ask}
use Rattle.fkv_session.proofs.CatchLeft.{catch_asked_left}
use Rattle.fkv_session.proofs.catching_up.CatchUp.ask.Goals as goal

pub returns-in-Ended-clause-asks : goal.returns-in-Ended-clause-asks
unfolding catching_ask
returns-in-Ended-clause-asks c = catch_asked_left c.args.self.now.places c.args.self.now.session c.args.self.now.state c.args.requests.now (Done (tt {0})) (search rules)

pub returns-in-Refreshes-clause-asks : goal.returns-in-Refreshes-clause-asks
unfolding catching_ask
returns-in-Refreshes-clause-asks c = catch_asked_left c.args.self.now.places c.args.self.now.session c.args.self.now.state c.args.requests.now c.passed.result (search rules)

pub returns-in-Protects-clause-asks : goal.returns-in-Protects-clause-asks
unfolding catching_ask
returns-in-Protects-clause-asks c = catch_asked_left c.args.self.now.places c.args.self.now.session c.args.self.now.state c.args.requests.now c.passed-in-Protects.result (search rules)

pub returns-in-StoresCut-clause-asks : goal.returns-in-StoresCut-clause-asks
unfolding catching_ask
returns-in-StoresCut-clause-asks c = catch_asked_left c.args.self.now.places c.args.self.now.session c.args.self.now.state c.args.requests.now (Store c.place.result c.cut_at.result) (search rules)

pub returns-in-StoresOwing-clause-asks : goal.returns-in-StoresOwing-clause-asks
unfolding catching_ask
returns-in-StoresOwing-clause-asks c = catch_asked_left c.args.self.now.places c.args.self.now.session c.args.self.now.state c.args.requests.now (Store c.place-in-StoresOwing.result c.owing-owing.result) (search rules)

pub returns-in-Latches-clause-asks : goal.returns-in-Latches-clause-asks
unfolding catching_ask
returns-in-Latches-clause-asks c = catch_asked_left c.args.self.now.places c.args.self.now.session c.args.self.now.state c.args.requests.now c.passed-in-Latches.result (search rules)
