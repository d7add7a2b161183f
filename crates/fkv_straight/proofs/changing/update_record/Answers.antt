use Rattle.fkv_map.specs.declared.operations.Reply.{Reply}
use Rattle.fkv_straight.specs.Met.{HasChanged, HasLost}
use Rattle.fkv_straight.proofs.Changes.{calm_stays, changed_done, lost_waits}
use Rattle.fkv_straight.proofs.Goings.{calm_in, none_of, some_of, updates_in}
use Rattle.fkv_straight.proofs.changing.update_record.Goals as goal

pub change-changed-requires-clause-stays : goal.change-changed-requires-clause-stays
change-changed-requires-clause-stays g c = λ its goes. calm_stays its c.args.its (calm_in its (g.L.Line.seat c.args.line.now) c.args.op c.args.going.now goes c.requires.calm)

pub returns-in-Some-clause-done : goal.returns-in-Some-clause-done
returns-in-Some-clause-done g c = λ its goes met.
    let k = g.L.Line.seat c.args.line.now in
    let u = g.L.Line.stands c.change-changed.new.line in
    changed_done its c.in-Some.reply u goes.settled (calm_in its k c.args.op c.args.going.now goes c.requires.calm) (updates_in its k c.args.op c.args.going.now _ goes c.requires.updates)
    (some_of (λ (x : Reply). HasChanged its x u) c.change-changed.result c.in-Some.reply c.in-Some.is (c.change-changed.ensures.done its goes met))

pub returns-in-None-clause-done : goal.returns-in-None-clause-done
returns-in-None-clause-done g c = λ its goes met.
    let k = g.L.Line.seat c.args.line.now in
    let u = g.L.Line.stands c.change-changed.new.line in
    lost_waits its u goes.settled (calm_in its k c.args.op c.args.going.now goes c.requires.calm) (updates_in its k c.args.op c.args.going.now _ goes c.requires.updates)
    (none_of (HasLost its u) c.change-changed.result c.in-None.is (c.change-changed.ensures.lost its goes met))
