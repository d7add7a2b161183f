use Rattle.std.proofs.Common.{◌≡◌, sym, ◌∙◌, rules, true}
use Rattle.fkv_straight.proofs.Copies.{disk_reserves}
use Rattle.fkv_straight.proofs.Goings.{calm_in, updates_in, blind_in}
use Rattle.fkv_straight.proofs.appending.append_past.Goals as goal

pub append-requires-clause-at : goal.append-requires-clause-at
append-requires-clause-at g c =
    let k = g.L.Line.seat c.args.line.now in
    let its = c.requires.at.0 in
    let goes = c.requires.at.1 in
    let addr = c.requires.at.2 in
    let at = c.requires.at.3 in
    let so : c.is_blind-blind.result ≡ true = search rules in (
      its,
      goes,
      disk_reserves its c.args.slot.place c.args.slot.entry addr (g.L.Line.stands c.args.line.now) at.2 at.0 at.1 (calm_in its k c.args.op c.args.going.now goes c.requires.calm) (updates_in its k c.args.op c.args.going.now _ goes c.requires.updates)
          (blind_in its k c.args.op c.args.going.now _ goes (sym c.is_blind-blind.ensures ∙ so)) (goes.moves_on ∙ c.if-going.false),
    )

pub returns-clause-done : goal.returns-clause-done
returns-clause-done g c = λ its goes addr at.
    let k = g.L.Line.seat c.args.line.now in
    let so : c.is_blind-blind.result ≡ true = search rules in
    c.append.ensures.done its goes (disk_reserves its c.args.slot.place c.args.slot.entry addr (g.L.Line.stands c.args.line.now) at.2 at.0 at.1 (calm_in its k c.args.op c.args.going.now goes c.requires.calm) (updates_in its k c.args.op c.args.going.now _ goes c.requires.updates)
    (blind_in its k c.args.op c.args.going.now _ goes (sym c.is_blind-blind.ensures ∙ so)) (goes.moves_on ∙ c.if-going.false))
