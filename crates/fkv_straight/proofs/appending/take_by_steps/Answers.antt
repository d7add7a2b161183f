use Rattle.std.proofs.Common.{◌≡◌, ℕ, ◌+◌, ◌<◌, refl, sym, subst}
use Rattle.fkv_map.specs.Keys.{as_number}
use Rattle.fkv_plane.specs.declared.asks.Ask.TheVariants.{Load, Cas}
use Rattle.fkv_plane.specs.declared.places.SharedWord.TheVariants as one
use Rattle.fkv_plane.specs.Places.{shared_place}
use Rattle.fkv_index.specs.Slots.{entry_addr}
use Rattle.fkv_straight.specs.Met.{IsReserved}
use Rattle.fkv_straight.proofs.Appends.{tail_asks, tail_comes, take_asks, take_comes, take_lost}
use Rattle.fkv_straight.proofs.Goings.{calm_in, place_asks, leads_on, updates_in}
use Rattle.fkv_straight.proofs.appending.take_by_steps.Goals as goal

pub load-tail-requires-clause-asked : goal.load-tail-requires-clause-asked
load-tail-requires-clause-asked g c =
    let k = g.L.Line.seat c.args.line.now in
    let u = g.L.Line.stands c.args.line.now in
    let its = c.requires.at.0 in
    place_asks its k c.args.op c.args.going.now (shared_place one.Tail) c.place-tail_place.result k u (λ (n : ℕ). Load n) c.requires.at.1 refl (sym c.place-tail_place.ensures)
    (tail_asks its c.args.slot.place c.args.slot.entry (as_number c.args.old) c.args.limit u c.requires.at.2)

pub cas-found-requires-clause-asked : goal.cas-found-requires-clause-asked
cas-found-requires-clause-asked g c =
    let k = g.L.Line.seat c.args.line.now in
    let u = g.L.Line.stands c.args.line.now in
    let v = g.L.Line.stands c.load-tail.new.self in
    let its = c.requires.at.0 in
    let goes = c.requires.at.1 in
    let old = as_number c.args.old in
    let then = tail_comes its c.args.slot.place c.args.slot.entry old c.args.limit c.load-tail.result u v c.requires.at.2
    (leads_on its k c.args.op c.args.going.now k u v c.load-tail.result goes refl c.load-tail.ensures.next) c.if-tail-limit.false in
    place_asks its k c.args.op c.args.going.now (shared_place one.Tail) c.place-tail_place.result (g.L.Line.seat c.load-tail.new.self) v (λ (n : ℕ). Cas n c.load-tail.result (c.load-tail.result + 1)) goes c.load-tail.ensures.seat (sym c.place-tail_place.ensures)
    (take_asks its c.args.slot.place c.args.slot.entry old c.load-tail.result v then)

pub returns-then-found-tail-clause-fills : goal.returns-then-found-tail-clause-fills
returns-then-found-tail-clause-fills g c = λ its goes at addr taken.
    let k = g.L.Line.seat c.args.line.now in
    let u = g.L.Line.stands c.args.line.now in
    let v = g.L.Line.stands c.load-tail.new.self in
    let w = g.L.Line.stands c.cas-found.new.self in
    let old = as_number c.args.old in
    let then = tail_comes its c.args.slot.place c.args.slot.entry old c.args.limit c.load-tail.result u v at
    (leads_on its k c.args.op c.args.going.now k u v c.load-tail.result goes refl c.load-tail.ensures.next) c.if-tail-limit.false in
    let above : entry_addr c.args.slot.entry < c.load-tail.result = subst (λ (n : ℕ). n < c.load-tail.result) c.addr_of-previous.ensures c.if-tail-previous.false in
    subst (λ (n : ℕ). IsReserved its c.args.slot.place c.args.slot.entry old n w) (let e : c.load-tail.result ≡ addr = cc taken in e)
    (take_comes its c.args.slot.place c.args.slot.entry old c.load-tail.result c.cas-found.result v w then
    (leads_on its k c.args.op c.args.going.now (g.L.Line.seat c.load-tail.new.self) v w c.cas-found.result goes c.load-tail.ensures.seat c.cas-found.ensures.next)
    c.if-found-tail.true above c.if-tail.false)

pub returns-else-found-tail-clause-waits : goal.returns-else-found-tail-clause-waits
returns-else-found-tail-clause-waits g c = λ its goes at lost.
    let k = g.L.Line.seat c.args.line.now in
    let u = g.L.Line.stands c.args.line.now in
    let v = g.L.Line.stands c.load-tail.new.self in
    let w = g.L.Line.stands c.cas-found.new.self in
    let old = as_number c.args.old in
    let then = tail_comes its c.args.slot.place c.args.slot.entry old c.args.limit c.load-tail.result u v at
    (leads_on its k c.args.op c.args.going.now k u v c.load-tail.result goes refl c.load-tail.ensures.next) c.if-tail-limit.false in
    take_lost its c.args.slot.place c.args.slot.entry old c.load-tail.result c.cas-found.result v w goes.settled (calm_in its k c.args.op c.args.going.now goes c.requires.calm) (updates_in its k c.args.op c.args.going.now _ goes c.requires.updates) then
    (leads_on its k c.args.op c.args.going.now (g.L.Line.seat c.load-tail.new.self) v w c.cas-found.result goes c.load-tail.ensures.seat c.cas-found.ensures.next)
    c.if-found-tail.false
