-- It asks just where it has asks left.
use Rattle.std.proofs.Common.{◌<◌, refl, rules}
use Rattle.fkv_plane.specs.declared.asks.Ask.TheVariants.{Done}
use Rattle.fkv_ops.specs.Trying.{trying_ask}
use Rattle.fkv_ops.specs.AsksLeft.{try_asks_left}
use Rattle.fkv_ops.proofs.TryAsks.{try_left, asked_left}
use Rattle.fkv_ops.proofs.trying.Try.ask.Goals as goal

pub returns-in-Ended-clause-asks : goal.returns-in-Ended-clause-asks
unfolding trying_ask
returns-in-Ended-clause-asks c = asked_left c.args.self.now.places c.args.self.now.state (Done c.in-Ended.answer) (search rules)

pub returns-in-TakesShared-clause-asks : goal.returns-in-TakesShared-clause-asks
unfolding trying_ask
returns-in-TakesShared-clause-asks c = asked_left c.args.self.now.places c.args.self.now.state c.passed.result (search rules)

pub returns-in-Walks-clause-asks : goal.returns-in-Walks-clause-asks
unfolding trying_ask
returns-in-Walks-clause-asks c = asked_left c.args.self.now.places c.args.self.now.state c.passed-in-Walks.result (search rules)

pub returns-in-LoadsPhase-clause-asks : goal.returns-in-LoadsPhase-clause-asks
unfolding trying_ask
returns-in-LoadsPhase-clause-asks c =
    let some : 0 < try_asks_left c.args.self.now.places c.args.self.now.state = (try_left c.args.self.now.places c.args.self.now.state).0 (search rules) in
    (λ asks. some, λ left. refl)

pub returns-in-LoadsSafe-clause-asks : goal.returns-in-LoadsSafe-clause-asks
unfolding trying_ask
returns-in-LoadsSafe-clause-asks c =
    let some : 0 < try_asks_left c.args.self.now.places c.args.self.now.state = (try_left c.args.self.now.places c.args.self.now.state).0 (search rules) in
    (λ asks. some, λ left. refl)

pub returns-in-SwapsValue-clause-asks : goal.returns-in-SwapsValue-clause-asks
unfolding trying_ask
returns-in-SwapsValue-clause-asks c =
    let some : 0 < try_asks_left c.args.self.now.places c.args.self.now.state = (try_left c.args.self.now.places c.args.self.now.state).0 (search rules) in
    (λ asks. some, λ left. refl)

pub returns-in-ChangesValue-clause-asks : goal.returns-in-ChangesValue-clause-asks
unfolding trying_ask
returns-in-ChangesValue-clause-asks c =
    let some : 0 < try_asks_left c.args.self.now.places c.args.self.now.state = (try_left c.args.self.now.places c.args.self.now.state).0 (search rules) in
    (λ asks. some, λ left. refl)

pub returns-in-Appends-clause-asks : goal.returns-in-Appends-clause-asks
unfolding trying_ask
returns-in-Appends-clause-asks c = asked_left c.args.self.now.places c.args.self.now.state c.passed-in-Appends.result (search rules)

pub returns-in-DropsExclusive-clause-asks : goal.returns-in-DropsExclusive-clause-asks
unfolding trying_ask
returns-in-DropsExclusive-clause-asks c = asked_left c.args.self.now.places c.args.self.now.state c.passed-in-DropsExclusive.result (search rules)

pub returns-in-CountsTaken-clause-asks : goal.returns-in-CountsTaken-clause-asks
unfolding trying_ask
returns-in-CountsTaken-clause-asks c =
    let some : 0 < try_asks_left c.args.self.now.places c.args.self.now.state = (try_left c.args.self.now.places c.args.self.now.state).0 (search rules) in
    (λ asks. some, λ left. refl)

pub returns-in-LoadsTail-clause-asks : goal.returns-in-LoadsTail-clause-asks
unfolding trying_ask
returns-in-LoadsTail-clause-asks c =
    let some : 0 < try_asks_left c.args.self.now.places c.args.self.now.state = (try_left c.args.self.now.places c.args.self.now.state).0 (search rules) in
    (λ asks. some, λ left. refl)
