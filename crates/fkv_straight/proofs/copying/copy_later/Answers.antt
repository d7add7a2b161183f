use Rattle.std.proofs.Common.{◌∙◌}
use Rattle.fkv_straight.proofs.Changes.{calm_stays, met_by}
use Rattle.fkv_straight.proofs.Copies.{later_copied, is_high, is_other}
use Rattle.fkv_straight.proofs.Goings.{calm_in, updates_in}
use Rattle.fkv_straight.proofs.copying.copy_later.Goals as goal

pub copy-requires-clause-at : goal.copy-requires-clause-at
copy-requires-clause-at g c =
    let k = g.L.Line.seat c.args.line.now in
    let s = g.L.Line.stands c.args.line.now in
    let its = c.requires.at.0 in
    let goes = c.requires.at.1 in
    let met = met_by its c.args.its s c.requires.at.2 (calm_stays its c.args.its (calm_in its k c.args.op c.args.going.now goes c.requires.calm)) (updates_in its k c.args.op c.args.going.now _ goes c.requires.updates) in
    (its, goes, later_copied its c.args.its s c.requires.at.2 met (is_high its k c.args.op c.args.going.now c.args.its goes c.requires.mutable) (is_other its k c.args.op c.args.going.now c.args.its goes c.requires.other) (goes.moves_on ∙ c.if-going.false))

pub returns-clause-done : goal.returns-clause-done
returns-clause-done g c = λ its goes met.
    let k = g.L.Line.seat c.args.line.now in
    let s = g.L.Line.stands c.args.line.now in
    let by = met_by its c.args.its s met (calm_stays its c.args.its (calm_in its k c.args.op c.args.going.now goes c.requires.calm)) (updates_in its k c.args.op c.args.going.now _ goes c.requires.updates) in
    c.copy.ensures.done its goes (later_copied its c.args.its s met by (is_high its k c.args.op c.args.going.now c.args.its goes c.requires.mutable) (is_other its k c.args.op c.args.going.now c.args.its goes c.requires.other) (goes.moves_on ∙ c.if-going.false))
