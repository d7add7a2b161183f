-- Whether memory was granted counts in the first of the two steps alone.
use Rattle.std.proofs.Common.{rules, ◌≡◌, Bool, true, List, ℕ}
use Rattle.fkv_keeper.specs.declared.answers.KeeperTold.{KeeperTold}
use Rattle.fkv_keeper.specs.Keeping.{KeeperState, keeper_ask}
use Rattle.fkv_plane.specs.declared.asks.Ask.{Ask}
use Rattle.fkv_session.specs.Sessions.{is_word_ask}
use Rattle.fkv_world.specs.Moves.{Near, keeper_moved, keeper_replied, keeper_asks, keeper_settled}
use Rattle.fkv_core.specs.Worlds.{beside}
use Rattle.fkv_core.proofs.Granted.{two_steps}
use Rattle.fkv_core.proofs.keeper_moves.word_asked.Goals as goal

pub returns-in-Put-clause-moved : goal.returns-in-Put-clause-moved
unfolding keeper_asks keeper_settled
returns-in-Put-clause-moved c =
    let k = c.args.keeper.now in
    let granted : Bool = c.go_on.new.self.state.is_granted in
    let it : (done : Bool) (read : List ℕ) → beside c.put.new.self c.go_on.new.self.state ≡ keeper_moved k.shape k.places granted done read (beside c.args.words.now k.state) = search rules in
    (granted, it)

pub returns-in-Some-clause-moved : goal.returns-in-Some-clause-moved
unfolding keeper_asks keeper_settled
returns-in-Some-clause-moved c =
    let k = c.args.keeper.now in
    let it : (done : Bool) (read : List ℕ) → beside c.take.new.self c.take-in-Some.new.self.state ≡ keeper_moved k.shape k.places true done read (beside c.args.words.now k.state) = search rules in
    (true, it)

pub returns-in_default : goal.returns-in_default
returns-in_default c =
    let k = c.args.keeper.now in
    let between = c.replied-next.new.keeper in
    let granted : Bool = c.replied-next.ensures.next.0 in
    let n : Near KeeperState = beside c.args.words.now k.state in
    let ask : Ask KeeperTold = c.args.ask in
    let word : is_word_ask ask ≡ true = search rules in
    let asked : ask ≡ keeper_ask k.shape k.places k.state = search rules in
    let same : between.shape ≡ k.shape = search rules in
    let also : between.places ≡ k.places = search rules in
    let first : beside c.perform-reply.new.self between.state ≡ keeper_replied k.shape k.places granted n ask = search rules in
    record {
      store = search rules;
      no_sweep = λ none sweeps. c.replied-next.ensures.no_sweep none (c.settle.ensures.no_sweep sweeps);
      moved = (granted, λ done read. two_steps k.shape between.shape k.places between.places n (beside c.perform-reply.new.self between.state) (beside c.settle.new.words c.settle.new.keeper.state) granted done read ask asked word same also first (c.settle.ensures.next granted));
    }
