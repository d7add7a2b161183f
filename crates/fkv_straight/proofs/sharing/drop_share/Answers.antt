use Rattle.std.proofs.Common.{ℕ, ◌-◌, ◌^◌, refl}
use Rattle.fkv_plane.specs.declared.asks.Ask.TheVariants.{Add}
use Rattle.fkv_straight.specs.Met.{latch_in}
use Rattle.fkv_straight.proofs.Goings.{latch_is, leads_on, place_asks, shares_in, updates_in}
use Rattle.fkv_straight.proofs.Shares.{drop_asks, drop_ends}
use Rattle.fkv_straight.proofs.sharing.drop_share.Goals as goal

pub add-requires-clause-asked : goal.add-requires-clause-asked
add-requires-clause-asked g c =
    let k = g.L.Line.seat c.args.line.now in
    let s = g.L.Line.stands c.args.line.now in
    let its = c.requires.at.0 in
    let goes = c.requires.at.1 in
    place_asks its k c.args.op c.args.going.now (latch_in its) c.latch_of-place.result k s (λ (n : ℕ). Add n (2 ^ 64 - 2 ^ 48)) goes refl (latch_is its k c.args.op c.args.going.now c.latch_of-place.result goes c.latch_of-place.ensures)
    (drop_asks its c.args.reply s (shares_in its k c.args.op c.args.going.now goes c.requires.prepares c.requires.updates) c.requires.at.2)

pub returns-clause-done : goal.returns-clause-done
returns-clause-done g c = λ its goes changed.
    let k = g.L.Line.seat c.args.line.now in
    let s = g.L.Line.stands c.args.line.now in
    drop_ends its c.args.reply c.add.result s (g.L.Line.stands c.add.new.self) goes.settled (shares_in its k c.args.op c.args.going.now goes c.requires.prepares c.requires.updates) (updates_in its k c.args.op c.args.going.now _ goes c.requires.updates) changed
    (leads_on its k c.args.op c.args.going.now k s (g.L.Line.stands c.add.new.self) c.add.result goes refl c.add.ensures.next)
