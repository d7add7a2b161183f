use Rattle.std.proofs.Common.{◌∙◌}
use Rattle.fkv_straight.proofs.Copies.{nowhere_reserves}
use Rattle.fkv_straight.proofs.Goings.{calm_in, updates_in}
use Rattle.fkv_straight.proofs.appending.append_first.Goals as goal

pub append-requires-clause-at : goal.append-requires-clause-at
append-requires-clause-at g c =
    let k = g.L.Line.seat c.args.line.now in
    let its = c.requires.at.0 in
    let goes = c.requires.at.1 in
    (its, goes, nowhere_reserves its c.args.slot.place c.args.slot.entry (g.L.Line.stands c.args.line.now) c.requires.at.2 (calm_in its k c.args.op c.args.going.now goes c.requires.calm) (updates_in its k c.args.op c.args.going.now _ goes c.requires.updates) (goes.moves_on ∙ c.if-going.false))

pub returns-clause-done : goal.returns-clause-done
returns-clause-done g c = λ its goes at.
    let k = g.L.Line.seat c.args.line.now in
    c.append.ensures.done its goes (nowhere_reserves its c.args.slot.place c.args.slot.entry (g.L.Line.stands c.args.line.now) at (calm_in its k c.args.op c.args.going.now goes c.requires.calm) (updates_in its k c.args.op c.args.going.now _ goes c.requires.updates) (goes.moves_on ∙ c.if-going.false))
