-- It is busy where some asks and calls are left, and each reply leaves fewer.
use Rattle.std.proofs.Common.{rules, ◌≡◌, ◌<◌, ◌∙◌, ap, sym, subst, is_some}
use Rattle.fkv_sweep.specs.Sweeping.{Sweeper}
use Rattle.fkv_sweep.proofs.Shown.{sweep_next_same}
use Rattle.fkv_keeper.specs.Keeping.{KeeperModel, KeeperState, granted_for, keeping_next, keeper_ask, keeper_next}
use Rattle.fkv_keeper.specs.KeeperAsks.{keeper_asks_left}
use Rattle.fkv_keeper.proofs.KeeperFewer.{keeper_fewer}
use Rattle.fkv_keeper.proofs.KeeperLeft.{keeper_asked}
use Rattle.fkv_keeper.proofs.keepers.Keeper.go_on_with.Goals as goal

pub invariant_of-self-in-Sweeps : goal.invariant_of-self-in-Sweeps
invariant_of-self-in-Sweeps c =
    let its = c.drive-ask-in-Sweeps.ensures.next in
    let same = sweep_next_same c.self.inside.sweep c.args.reply in
    let all = c.self.invariant in
    (all.0, all.1, all.2, all.3, ap (λ (w : Sweeper). w.shape) its ∙ same.shape ∙ all.4, ap (λ (w : Sweeper). w.places) its ∙ same.places ∙ all.5, all.6)

pub returns-clause-left : goal.returns-clause-left
unfolding keeping_next
returns-clause-left c =
    let before = c.args.self.now in
    let after = c.match-self.self in
    let next = keeper_next before.shape before.places before.state c.args.reply (granted_for before.state (is_some c.args.room) c.args.goes_on) in
    let its : after ≡ record before { state = next } = search rules in
    let asked : c.ask.result ≡ keeper_ask before.shape before.places after.state = search rules in
    keeper_asked before.shape before.places after.state c.ask.result asked

pub returns-clause-fewer : goal.returns-clause-fewer
unfolding keeping_next
returns-clause-fewer c =
    let before = c.args.self.now in
    let after = c.match-self.self in
    let its : after ≡ record before { state = keeper_next before.shape before.places before.state c.args.reply (granted_for before.state (is_some c.args.room) c.args.goes_on) } = search rules in
    let state = ap (λ (k : KeeperModel). k.state) its in
    λ asks takes. subst (λ (s : KeeperState). keeper_asks_left before.shape before.places s < keeper_asks_left before.shape before.places before.state) (sym state)
    (keeper_fewer before.shape before.places before.state c.args.reply (granted_for before.state (is_some c.args.room) c.args.goes_on) asks takes)

pub returns-in-Maintains-clause-left : goal.returns-in-Maintains-clause-left
returns-in-Maintains-clause-left c =
    let before = c.args.self.now in keeper_asked before.shape before.places c.go_on_maintaining.new.self.state c.go_on_maintaining.result c.go_on_maintaining.ensures.ask

pub returns-in-Maintains-clause-fewer : goal.returns-in-Maintains-clause-fewer
returns-in-Maintains-clause-fewer c =
    let before = c.args.self.now in
    let state = ap (λ (k : KeeperModel). k.state) (c.go_on_maintaining.ensures.next (granted_for before.state (is_some c.args.room) c.args.goes_on)) in
    λ asks takes. subst (λ (s : KeeperState). keeper_asks_left before.shape before.places s < keeper_asks_left before.shape before.places before.state) (sym state)
    (keeper_fewer before.shape before.places before.state c.args.reply (granted_for before.state (is_some c.args.room) c.args.goes_on) asks takes)
