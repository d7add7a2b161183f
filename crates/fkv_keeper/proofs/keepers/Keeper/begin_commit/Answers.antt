-- A commit that begins has few asks.
use Rattle.std.proofs.Common.{rules, ◌≡◌}
use Rattle.fkv_keeper.specs.Keeping.{keeper_ask, commit_asked}
use Rattle.fkv_keeper.proofs.KeeperLeft.{keeper_asked}
use Rattle.fkv_keeper.proofs.KeeperBegun.{begin_bounded}
use Rattle.fkv_keeper.proofs.keepers.Keeper.begin_commit.Goals as goal

pub returns-clause-left : goal.returns-clause-left
returns-clause-left c =
    let before = c.args.self.now in
    let next = commit_asked before.state c.args.kind in
    let its : c.if-self.self ≡ record before { state = next } = search rules in
    let asked : c.ask.result ≡ keeper_ask before.shape before.places next = rw its at c.ask.ensures in
    rw its (keeper_asked before.shape before.places next c.ask.result asked)

pub returns-clause-bounded : goal.returns-clause-bounded
returns-clause-bounded c =
    let before = c.args.self.now in
    let its : c.if-self.self ≡ record before { state = commit_asked before.state c.args.kind } = search rules in
    rw its (begin_bounded before.shape before.places before.state c.args.kind)
