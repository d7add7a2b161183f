use Rattle.std.proofs.Common.{◌≡◌, ℕ, ◌+◌, ◌<◌, refl, sym, subst}
use Rattle.fkv_map.specs.Keys.{as_number}
use Rattle.fkv_plane.specs.declared.asks.Ask.TheVariants.{Load, Cas}
use Rattle.fkv_plane.specs.declared.places.SharedWord.TheVariants as one
use Rattle.fkv_plane.specs.Places.{shared_place}
use Rattle.fkv_index.specs.Slots.{entry_addr}
use Rattle.fkv_straight.specs.Met.{IsReserved}
use Rattle.fkv_straight.specs.Standing.{asked, leads}
use Rattle.fkv_straight.proofs.Appends.{tail_asks, tail_comes, take_asks, take_comes}
use Rattle.fkv_straight.proofs.Goings.{place_asks, leads_on}
use Rattle.fkv_straight.proofs.appending.take_at_once.Goals as goal

pub raise-found-requires-clause-asked : goal.raise-found-requires-clause-asked
raise-found-requires-clause-asked g c =
    let k = g.L.Line.seat c.args.line.now in
    let u = g.L.Line.stands c.args.line.now in
    let its = c.requires.at.0 in
    subst (λ l. asked (g.L.Line.seat l) (g.L.Line.stands l) ≡ Load c.place-place.result) (sym c.tries.invariant)
    (place_asks its k c.args.op c.args.going.now (shared_place one.Tail) c.place-place.result k u (λ (n : ℕ). Load n) c.requires.at.1 refl (sym c.place-place.ensures)
    (tail_asks its c.args.slot.place c.args.slot.entry (as_number c.args.old) c.args.limit u c.requires.at.2))

pub raise-found-requires-clause-then : goal.raise-found-requires-clause-then
raise-found-requires-clause-then g c =
    let k = g.L.Line.seat c.args.line.now in
    let u = g.L.Line.stands c.args.line.now in
    let tail = c.tries.tail in
    let v = leads k u tail in
    let its = c.requires.at.0 in
    let goes = c.requires.at.1 in
    let old = as_number c.args.old in
    let then = tail_comes its c.args.slot.place c.args.slot.entry old c.args.limit tail u v c.requires.at.2 (leads_on its k c.args.op c.args.going.now k u v tail goes refl refl) c.if-tail-limit.false in
    subst (λ l. asked (g.L.Line.seat l) (leads (g.L.Line.seat l) (g.L.Line.stands l) tail) ≡ Cas c.place-place.result tail (tail + 1)) (sym c.tries.invariant)
    (place_asks its k c.args.op c.args.going.now (shared_place one.Tail) c.place-place.result k v (λ (n : ℕ). Cas n tail (tail + 1)) goes refl (sym c.place-place.ensures)
    (take_asks its c.args.slot.place c.args.slot.entry old tail v then))

pub returns-then-found-tail-clause-fills : goal.returns-then-found-tail-clause-fills
returns-then-found-tail-clause-fills g c = λ its goes at addr taken.
    let k = g.L.Line.seat c.args.line.now in
    let u = g.L.Line.stands c.args.line.now in
    let tail = c.tries.tail in
    let v = leads k u tail in
    let w = g.L.Line.stands c.raise-found.new.self in
    let old = as_number c.args.old in
    let then = tail_comes its c.args.slot.place c.args.slot.entry old c.args.limit tail u v at (leads_on its k c.args.op c.args.going.now k u v tail goes refl refl) c.if-tail-limit.false in
    let comes = subst (λ l. w ≡ leads (g.L.Line.seat l) (leads (g.L.Line.seat l) (g.L.Line.stands l) tail) tail) c.tries.invariant (c.raise-found.ensures.next c.if-found-tail.true) in
    let above : entry_addr c.args.slot.entry < tail = subst (λ (n : ℕ). n < tail) c.addr_of-previous.ensures c.if-tail-previous.false in
    subst (λ (n : ℕ). IsReserved its c.args.slot.place c.args.slot.entry old n w) (let e : tail ≡ addr = cc taken in e)
    (take_comes its c.args.slot.place c.args.slot.entry old tail tail v w then (leads_on its k c.args.op c.args.going.now k v w tail goes refl comes) refl above c.if-tail.false)
