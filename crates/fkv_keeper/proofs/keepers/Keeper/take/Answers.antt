-- It is busy where some asks and calls are left, and the action leaves fewer.
use Rattle.std.proofs.Common.{rules, ◌≡◌}
use Rattle.fkv_keeper.specs.Keeping.{keeping_given, keeper_ask, keeper_given}
use Rattle.fkv_keeper.proofs.KeeperFewer.{keeper_given_fewer}
use Rattle.fkv_keeper.proofs.KeeperLeft.{keeper_asked}
use Rattle.fkv_keeper.proofs.keepers.Keeper.take.Goals as goal

pub returns-clause-left : goal.returns-clause-left
unfolding keeping_given
returns-clause-left c =
    let before = c.args.self.now in
    let next = keeper_given before.shape before.places before.state c.args.action in
    let its : c.match-self.self ≡ record before { state = next } = search rules in
    let asked : c.ask.result ≡ keeper_ask before.shape before.places next = rw its at c.ask.ensures in
    rw its (keeper_asked before.shape before.places next c.ask.result asked)

pub returns-clause-fewer : goal.returns-clause-fewer
unfolding keeping_given
returns-clause-fewer c =
    let before = c.args.self.now in
    let its : c.match-self.self ≡ record before { state = keeper_given before.shape before.places before.state c.args.action } = search rules in
    rw its (keeper_given_fewer before.shape before.places before.state c.args.action)
