use Rattle.std.proofs.Common.{sym, ◌∙◌}
use Rattle.fkv_map.specs.declared.operations.Reply.{Reply}
use Rattle.fkv_straight.specs.Met.{HasChanged}
use Rattle.fkv_straight.proofs.Changes.{first_stays}
use Rattle.fkv_straight.proofs.Goings.{goes_at, some_of}
use Rattle.fkv_straight.proofs.sharing.change_shared.Goals as goal

pub change-changed-requires-clause-stays : goal.change-changed-requires-clause-stays
change-changed-requires-clause-stays g c = λ its goes. first_stays its c.args.its (c.if-its-newest.false ∙ c.addr_of-newest.ensures) (c.if-its-going-2.false ∙ sym goes.its_mark)

pub drop_share-requires-clause-at : goal.drop_share-requires-clause-at
drop_share-requires-clause-at g c =
    let k = g.L.Line.seat c.args.line.now in
    let u = g.L.Line.stands c.change-changed.new.line in
    let its = c.requires.at.0 in
    let goes = c.requires.at.1 in (
      its,
      goes_at its k c.args.op c.args.going.now (g.L.Line.seat c.change-changed.new.line) goes c.change-changed.ensures.seat,
      some_of (λ (x : Reply). HasChanged its x u) c.change-changed.result c.in-Some.reply c.in-Some.is (c.change-changed.ensures.done its goes c.requires.at.2),
    )

pub returns-in-Some-clause-done : goal.returns-in-Some-clause-done
returns-in-Some-clause-done g c = λ its goes met.
    let k = g.L.Line.seat c.args.line.now in
    let u = g.L.Line.stands c.change-changed.new.line in
    c.drop_share.ensures.done its (goes_at its k c.args.op c.args.going.now (g.L.Line.seat c.change-changed.new.line) goes c.change-changed.ensures.seat)
    (some_of (λ (x : Reply). HasChanged its x u) c.change-changed.result c.in-Some.reply c.in-Some.is (c.change-changed.ensures.done its goes met))
