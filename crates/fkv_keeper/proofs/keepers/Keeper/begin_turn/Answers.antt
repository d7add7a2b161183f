-- A turn that begins has no more asks and calls than all its parts.
use Rattle.std.proofs.Common.{rules, ◌≡◌}
use Rattle.fkv_keeper.specs.Keeping.{keeper_ask, turn_asked}
use Rattle.fkv_keeper.proofs.KeeperLeft.{keeper_asked}
use Rattle.fkv_keeper.proofs.KeeperBegun.{turn_bounded}
use Rattle.fkv_keeper.proofs.keepers.Keeper.begin_turn.Goals as goal

pub returns-clause-left : goal.returns-clause-left
returns-clause-left c =
    let before = c.args.self.now in
    let next = turn_asked before.state in
    let its : c.if-self.self ≡ record before { state = next } = search rules in
    let asked : c.ask.result ≡ keeper_ask before.shape before.places next = rw its at c.ask.ensures in
    rw its (keeper_asked before.shape before.places next c.ask.result asked)

pub returns-clause-bounded : goal.returns-clause-bounded
returns-clause-bounded c =
    let before = c.args.self.now in
    let its : c.if-self.self ≡ record before { state = turn_asked before.state } = search rules in
    let seeks : before.state.seek.sessions ≡ before.shape.sessions = search rules in
    let finishes : before.state.finish.sessions ≡ before.shape.sessions = search rules in
    let sweeps : before.state.sweep.places ≡ before.places = search rules in
    rw its (turn_bounded before.shape before.places before.state seeks finishes sweeps)
