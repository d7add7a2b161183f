use Rattle.std.proofs.Common.{◌≡◌, ℕ, refl, sym, subst}
use Rattle.fkv_map.specs.Keys.{as_number}
use Rattle.fkv_plane.specs.declared.asks.Ask.TheVariants.{Load}
use Rattle.fkv_plane.specs.declared.places.SharedWord.TheVariants as one
use Rattle.fkv_plane.specs.Places.{shared_place}
use Rattle.fkv_log.specs.declared.reserving.Reserving.TheVariants.{LoadsTail}
use Rattle.fkv_straight.specs.Course.{Course, Goes}
use Rattle.fkv_straight.specs.Met.{IsAtReserve, IsReserved}
use Rattle.fkv_straight.proofs.Appends.{limit_asks, limit_comes}
use Rattle.fkv_straight.proofs.Goings.{goes_at, limit_is, place_asks, leads_on}
use Rattle.fkv_straight.proofs.appending.reserve.Goals as goal

pub load-loaded-requires-clause-asked : goal.load-loaded-requires-clause-asked
load-loaded-requires-clause-asked g c =
    let k = g.L.Line.seat c.args.line.now in
    let s = g.L.Line.stands c.args.line.now in
    let its = c.requires.at.0 in
    place_asks its k c.args.op c.args.going.now (shared_place one.Limit) c.place-limit_place.result k s (λ (n : ℕ). Load n) c.requires.at.1 refl (sym c.place-limit_place.ensures)
    (limit_asks its c.args.slot.place c.args.slot.entry (as_number c.args.old) s c.requires.at.2)

pub take_at_once-taken-requires-clause-at : goal.take_at_once-taken-requires-clause-at
take_at_once-taken-requires-clause-at g c =
    let k = g.L.Line.seat c.args.line.now in
    let s = g.L.Line.stands c.args.line.now in
    let q = g.L.Line.seat c.load-loaded.new.self in
    let u = g.L.Line.stands c.load-loaded.new.self in
    let its = c.requires.at.0 in
    let goes = c.requires.at.1 in (
      its,
      goes_at its k c.args.op c.args.going.now q goes c.load-loaded.ensures.seat,
      limit_comes its c.args.slot.place c.args.slot.entry (as_number c.args.old) c.load-loaded.result c.limit_within-limit.result s u c.requires.at.2 (leads_on its k c.args.op c.args.going.now k s u c.load-loaded.result goes refl c.load-loaded.ensures.next) (limit_is its k c.args.op c.args.going.now c.load-loaded.result c.limit_within-limit.result goes c.limit_within-limit.ensures),
    )

pub take_by_steps-requires-clause-at : goal.take_by_steps-requires-clause-at
take_by_steps-requires-clause-at g c =
    let k = g.L.Line.seat c.args.line.now in
    let s = g.L.Line.stands c.args.line.now in
    let q = g.L.Line.seat c.load-loaded.new.self in
    let u = g.L.Line.stands c.load-loaded.new.self in
    let its = c.requires.at.0 in
    let goes = c.requires.at.1 in
    let old = as_number c.args.old in
    let limit = c.limit_within-limit.result in
    subst (λ l. (x : Course) × Goes x (g.L.Line.seat l) c.args.op c.args.going.now × IsAtReserve x c.args.slot.place c.args.slot.entry old (LoadsTail limit) (g.L.Line.stands l)) (sym c.in-None.ensures.still) (
      its,
      goes_at its k c.args.op c.args.going.now q goes c.load-loaded.ensures.seat,
      limit_comes its c.args.slot.place c.args.slot.entry old c.load-loaded.result limit s u c.requires.at.2 (leads_on its k c.args.op c.args.going.now k s u c.load-loaded.result goes refl c.load-loaded.ensures.next) (limit_is its k c.args.op c.args.going.now c.load-loaded.result limit goes c.limit_within-limit.ensures),
    )

pub returns-in-Some-clause-fills : goal.returns-in-Some-clause-fills
returns-in-Some-clause-fills g c = λ its goes reserves addr taken.
    let k = g.L.Line.seat c.args.line.now in
    let s = g.L.Line.stands c.args.line.now in
    let q = g.L.Line.seat c.load-loaded.new.self in
    let u = g.L.Line.stands c.load-loaded.new.self in
    let old = as_number c.args.old in
    let limit = c.limit_within-limit.result in
    let at = limit_comes its c.args.slot.place c.args.slot.entry old c.load-loaded.result limit s u reserves (leads_on its k c.args.op c.args.going.now k s u c.load-loaded.result goes refl c.load-loaded.ensures.next) (limit_is its k c.args.op c.args.going.now c.load-loaded.result limit goes c.limit_within-limit.ensures) in
    subst (λ (n : ℕ). IsReserved its c.args.slot.place c.args.slot.entry old n (g.L.Line.stands c.take_at_once-taken.new.line)) (let e : c.in-Some.addr ≡ addr = cc taken in e)
    (c.take_at_once-taken.ensures.fills its (goes_at its k c.args.op c.args.going.now q goes c.load-loaded.ensures.seat) at c.in-Some.addr c.in-Some.is)

pub returns-in-None-clause-fills : goal.returns-in-None-clause-fills
returns-in-None-clause-fills g c = λ its goes reserves.
    let k = g.L.Line.seat c.args.line.now in
    let s = g.L.Line.stands c.args.line.now in
    let q = g.L.Line.seat c.load-loaded.new.self in
    let u = g.L.Line.stands c.load-loaded.new.self in
    let old = as_number c.args.old in
    let limit = c.limit_within-limit.result in
    let at = limit_comes its c.args.slot.place c.args.slot.entry old c.load-loaded.result limit s u reserves (leads_on its k c.args.op c.args.going.now k s u c.load-loaded.result goes refl c.load-loaded.ensures.next) (limit_is its k c.args.op c.args.going.now c.load-loaded.result limit goes c.limit_within-limit.ensures) in
    let still = sym c.in-None.ensures.still in
    c.take_by_steps.ensures.fills its (subst (λ l. Goes its (g.L.Line.seat l) c.args.op c.args.going.now) still (goes_at its k c.args.op c.args.going.now q goes c.load-loaded.ensures.seat))
    (subst (λ l. IsAtReserve its c.args.slot.place c.args.slot.entry old (LoadsTail limit) (g.L.Line.stands l)) still at)

pub returns-in-None-clause-waits : goal.returns-in-None-clause-waits
returns-in-None-clause-waits g c = λ its goes reserves.
    let k = g.L.Line.seat c.args.line.now in
    let s = g.L.Line.stands c.args.line.now in
    let q = g.L.Line.seat c.load-loaded.new.self in
    let u = g.L.Line.stands c.load-loaded.new.self in
    let old = as_number c.args.old in
    let limit = c.limit_within-limit.result in
    let at = limit_comes its c.args.slot.place c.args.slot.entry old c.load-loaded.result limit s u reserves (leads_on its k c.args.op c.args.going.now k s u c.load-loaded.result goes refl c.load-loaded.ensures.next) (limit_is its k c.args.op c.args.going.now c.load-loaded.result limit goes c.limit_within-limit.ensures) in
    let still = sym c.in-None.ensures.still in
    c.take_by_steps.ensures.waits its (subst (λ l. Goes its (g.L.Line.seat l) c.args.op c.args.going.now) still (goes_at its k c.args.op c.args.going.now q goes c.load-loaded.ensures.seat))
    (subst (λ l. IsAtReserve its c.args.slot.place c.args.slot.entry old (LoadsTail limit) (g.L.Line.stands l)) still at)
