use Rattle.std.proofs.Common.{ℕ, refl, sym, ap, ◌∙◌, subst}
use Rattle.fkv_map.specs.Keys.{as_number, reply_from}
use Rattle.fkv_map.specs.declared.operations.Op.{Op}
use Rattle.fkv_map.specs.declared.operations.Reply.{Reply}
use Rattle.fkv_plane.specs.declared.asks.Ask.TheVariants.{Cas}
use Rattle.fkv_index.specs.declared.homes.Home.{Home}
use Rattle.fkv_index.specs.IndexWorld.{new_entry}
use Rattle.fkv_straight.specs.Standing.{IsDone}
use Rattle.fkv_straight.proofs.Appends.{publish_asks, publish_ends}
use Rattle.fkv_straight.proofs.Goings.{calm_in, goes_at, home_is, leads_on, place_asks, updates_in}
use Rattle.fkv_straight.proofs.appending.append.Goals as goal

pub fill-requires-clause-at : goal.fill-requires-clause-at
fill-requires-clause-at g c =
    let k = g.L.Line.seat c.args.line.now in
    let u = g.L.Line.stands c.reserve-reserved.new.line in
    let its = c.requires.at.0 in
    let goes = c.requires.at.1 in (
      its,
      goes_at its k c.args.op c.args.going.now (g.L.Line.seat c.reserve-reserved.new.line) goes c.reserve-reserved.ensures.seat,
      c.reserve-reserved.ensures.fills its goes c.requires.at.2 c.in-Taken.addr c.in-Taken.is,
    )

pub cas-found-requires-clause-asked : goal.cas-found-requires-clause-asked
cas-found-requires-clause-asked g c =
    let k = g.L.Line.seat c.args.line.now in
    let q = g.L.Line.seat c.reserve-reserved.new.line in
    let u = g.L.Line.stands c.reserve-reserved.new.line in
    let v = g.L.Line.stands c.fill.new.line in
    let its = c.requires.at.0 in
    let goes = c.requires.at.1 in
    let old = as_number c.args.old in
    let reserved = c.reserve-reserved.ensures.fills its goes c.requires.at.2 c.in-Taken.addr c.in-Taken.is in
    let at = c.fill.ensures.publishes its (goes_at its k c.args.op c.args.going.now q goes c.reserve-reserved.ensures.seat) reserved in
    let home = home_is its k c.args.op c.args.going.now c.home_of-home.result c.key.result goes c.key.ensures c.home_of-home.ensures.home in
    let entry = ap (λ (h : Home). new_entry c.in-Taken.addr h.tag) (sym home) ∙ sym c.entry_of-entry.ensures in
    place_asks its k c.args.op c.args.going.now c.args.slot.place c.args.slot.place (g.L.Line.seat c.fill.new.line) v (λ (n : ℕ). Cas n c.args.slot.entry c.entry_of-entry.result) goes (c.fill.ensures.seat ∙ c.reserve-reserved.ensures.seat) refl
    (publish_asks its c.args.slot.place c.args.slot.entry old c.in-Taken.addr v at ∙ ap (λ (n : ℕ). Cas c.args.slot.place c.args.slot.entry n) entry)

pub returns-then-found-slot-clause-done : goal.returns-then-found-slot-clause-done
returns-then-found-slot-clause-done g c = λ its goes reserves.
    let k = g.L.Line.seat c.args.line.now in
    let q = g.L.Line.seat c.reserve-reserved.new.line in
    let u = g.L.Line.stands c.reserve-reserved.new.line in
    let v = g.L.Line.stands c.fill.new.line in
    let w = g.L.Line.stands c.cas-found.new.self in
    let old = as_number c.args.old in
    let reserved = c.reserve-reserved.ensures.fills its goes reserves c.in-Taken.addr c.in-Taken.is in
    let at = c.fill.ensures.publishes its (goes_at its k c.args.op c.args.going.now q goes c.reserve-reserved.ensures.seat) reserved in
    subst (λ (x : Reply). IsDone its x w) (ap (λ (x : Op). reply_from old x) goes.its_op ∙ sym c.reply_from-reply.ensures)
    (publish_ends its c.args.slot.place c.args.slot.entry old c.in-Taken.addr c.cas-found.result v w goes.settled (calm_in its k c.args.op c.args.going.now goes c.requires.calm) at (updates_in its k c.args.op c.args.going.now _ goes c.requires.updates) c.if-found-slot.true
    (leads_on its k c.args.op c.args.going.now (g.L.Line.seat c.fill.new.line) v w c.cas-found.result goes (c.fill.ensures.seat ∙ c.reserve-reserved.ensures.seat) c.cas-found.ensures.next))
