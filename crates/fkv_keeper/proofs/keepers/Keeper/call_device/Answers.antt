-- It is busy where some asks and calls are left, fewer are, and none where the device failed.
use Rattle.std.proofs.Common.{rules, ◌≡◌, ◌<◌, subst, ℕ, List, [], true}
use Rattle.std.specs.Result.{is_ok}
use Rattle.std.proofs.lemmas.Result.{IfOk-weaker, on_err_weaker}
use Rattle.fkv_keeper.specs.Keeping.{KeeperState, keeping_called, keeper_called}
use Rattle.fkv_keeper.specs.KeeperAsks.{keeper_asks_left}
use Rattle.fkv_keeper.proofs.KeeperFewer.{keeper_called_fewer, ended_none}
use Rattle.fkv_keeper.proofs.KeeperLeft.{keeper_asked}
use Rattle.fkv_keeper.proofs.keepers.Keeper.call_device.Goals as goal

pub returns-in-Maintains-clause-left : goal.returns-in-Maintains-clause-left
returns-in-Maintains-clause-left g c = IfOk-weaker c.call_for_turn.result _ _ (λ ask its. keeper_asked _ _ _ ask its) c.call_for_turn.ensures.ask

pub returns-in-Maintains-clause-fewer : goal.returns-in-Maintains-clause-fewer
unfolding keeping_called
returns-in-Maintains-clause-fewer g c =
    let before = c.args.self.now in
    let its : (bytes : List ℕ) × (c.call_for_turn.new.self ≡ record before { state = keeper_called before.shape before.places before.state (is_ok c.call_for_turn.result) bytes }) = search rules in
    rw its.1 (keeper_called_fewer before.shape before.places before.state (is_ok c.call_for_turn.result) its.0)

pub returns-in-Maintains-clause-none : goal.returns-in-Maintains-clause-none
returns-in-Maintains-clause-none g c = on_err_weaker c.call_for_turn.result (λ its. ended_none _ _ _ _ its) c.call_for_turn.ensures.refused

pub returns-in-Writes-clause-left : goal.returns-in-Writes-clause-left
returns-in-Writes-clause-left g c = IfOk-weaker c.call_for_commit.result _ _ (λ ask its. keeper_asked _ _ _ ask its) c.call_for_commit.ensures.ask

pub returns-in-Writes-clause-fewer : goal.returns-in-Writes-clause-fewer
unfolding keeping_called
returns-in-Writes-clause-fewer g c =
    let before = c.args.self.now in
    let its : (bytes : List ℕ) × (c.call_for_commit.new.self ≡ record before { state = keeper_called before.shape before.places before.state (is_ok c.call_for_commit.result) bytes }) = search rules in
    rw its.1 (keeper_called_fewer before.shape before.places before.state (is_ok c.call_for_commit.result) its.0)

pub returns-in-Writes-clause-none : goal.returns-in-Writes-clause-none
returns-in-Writes-clause-none g c = on_err_weaker c.call_for_commit.result (λ its. ended_none _ _ _ _ its) c.call_for_commit.ensures.refused

pub returns-in-Sweeps-clause-left : goal.returns-in-Sweeps-clause-left
returns-in-Sweeps-clause-left g c = IfOk-weaker c.call_for_sweep.result _ _ (λ ask its. keeper_asked _ _ _ ask its) c.call_for_sweep.ensures.ask

pub returns-in-Sweeps-clause-fewer : goal.returns-in-Sweeps-clause-fewer
unfolding keeping_called
returns-in-Sweeps-clause-fewer g c =
    let before = c.args.self.now in
    let its : (bytes : List ℕ) × (c.call_for_sweep.new.self ≡ record before { state = keeper_called before.shape before.places before.state (is_ok c.call_for_sweep.result) bytes }) = search rules in
    rw its.1 (keeper_called_fewer before.shape before.places before.state (is_ok c.call_for_sweep.result) its.0)

pub returns-in-Sweeps-clause-none : goal.returns-in-Sweeps-clause-none
returns-in-Sweeps-clause-none g c = on_err_weaker c.call_for_sweep.result (λ its. ended_none _ _ _ _ its) c.call_for_sweep.ensures.refused

pub returns-clause-left : goal.returns-clause-left
returns-clause-left g c = keeper_asked _ _ _ c.ask.result c.ask.ensures

pub returns-clause-fewer : goal.returns-clause-fewer
unfolding keeping_called
returns-clause-fewer g c =
    let before = c.args.self.now in
    let its : keeper_called before.shape before.places before.state true [] ≡ before.state = search rules in
    λ asks. subst (λ (s : KeeperState). keeper_asks_left before.shape before.places s < keeper_asks_left before.shape before.places before.state) its (keeper_called_fewer before.shape before.places before.state true [] asks)
