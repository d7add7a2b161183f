-- The keeper's step goes by the device where it asks for it, and else by the words.
use Rattle.std.proofs.Common.{rules, ◌≡◌, false}
use Rattle.fkv_keeper.specs.declared.answers.KeeperTold.TheVariants.{Device}
use Rattle.fkv_keeper.specs.Keeping.{keeper_ask}
use Rattle.fkv_plane.specs.declared.asks.Ask.TheVariants.{Done}
use Rattle.fkv_plane.specs.Passing.{is_done}
use Rattle.fkv_core.proofs.Keepers.{word_move, device_move, no_time}
use Rattle.fkv_core.proofs.keeper_moves.keeper_move.Goals as goal

pub returns-in-Done-Device-clause-moved : goal.returns-in-Done-Device-clause-moved
returns-in-Done-Device-clause-moved g c =
    let k = c.args.keeper.now in
    let asks : keeper_ask k.shape k.places k.state ≡ Done Device = search rules in
    device_move c.args.sweeps c.args.words.now k c.device_step.new.self _ _ _ _ _ _ _ _ _ _ _ asks c.device_step.ensures.step

pub returns-in_default : goal.returns-in_default
returns-in_default g c =
    let k = c.args.keeper.now in
    let word : is_done (keeper_ask k.shape k.places k.state) ≡ false = search rules in
    let store : c.word_asked.new.keeper ≡ record k { state = c.word_asked.new.keeper.state } = search rules in
    record {
      moved = word_move c.args.sweeps c.args.words.now c.word_asked.new.words k c.word_asked.new.keeper _ _ _ _ _ _ word store c.word_asked.ensures.no_sweep c.word_asked.ensures.moved;
      ended = search rules;
      honest = (λ claim. claim, λ claim. claim);
      time = λ claim. no_time _ _ _;
    }
