use Rattle.std.proofs.Common.{ℕ, refl, ap, ◌∙◌, add-zero}
use Rattle.fkv_plane.specs.declared.asks.Ask.TheVariants.{Load}
use Rattle.fkv_index.specs.Slots.{entry_addr, home_of}
use Rattle.fkv_map.specs.Keys.{key_of}
use Rattle.fkv_straight.specs.declared.searching.Slot.{Slot}
use Rattle.fkv_straight.specs.Met.{IsReached}
use Rattle.fkv_straight.proofs.Goings.{goes_at, leads_on, place_asks, some_of}
use Rattle.fkv_straight.proofs.Seeks.{first_at, slot_asks, slot_comes}
use Rattle.fkv_straight.proofs.searching.search_on.Goals as goal

pub load-word-requires-clause-asked : goal.load-word-requires-clause-asked
load-word-requires-clause-asked g c =
    let k = g.L.Line.seat c.args.line.now in
    let s = g.L.Line.stands c.args.line.now in
    let its = c.requires.at.0 in
    let goes = c.requires.at.1 in
    let base = c.first_slot_of-first.result in
    let at = first_at its k c.args.op s c.args.going.now (home_of c.args.going.now.bits (key_of c.args.op)) (key_of c.args.op) base c.args.going.now.places.overflow goes c.requires.at.2 refl refl c.first_slot_of-first.ensures.place refl in
    place_asks its k c.args.op c.args.going.now base base k s (λ (n : ℕ). Load n) goes refl refl (slot_asks its base c.args.going.now.places.overflow 0 s at ∙ ap (λ (n : ℕ). Load n) (add-zero base))

pub seek-slot-requires-clause-at : goal.seek-slot-requires-clause-at
seek-slot-requires-clause-at g c =
    let k = g.L.Line.seat c.args.line.now in
    let s = g.L.Line.stands c.args.line.now in
    let u = g.L.Line.stands c.load-word.new.self in
    let its = c.requires.at.0 in
    let goes = c.requires.at.1 in
    let base = c.first_slot_of-first.result in
    let at = first_at its k c.args.op s c.args.going.now (home_of c.args.going.now.bits (key_of c.args.op)) (key_of c.args.op) base c.args.going.now.places.overflow goes c.requires.at.2 refl refl c.first_slot_of-first.ensures.place refl in (
      its,
      goes_at its k c.args.op c.args.going.now (g.L.Line.seat c.load-word.new.self) goes c.load-word.ensures.seat,
      slot_comes its base c.args.going.now.places.overflow 0 c.load-word.result s u at (leads_on its k c.args.op c.args.going.now k s u c.load-word.result goes refl c.load-word.ensures.next),
    )

pub walk-requires-clause-at : goal.walk-requires-clause-at
walk-requires-clause-at g c =
    let k = g.L.Line.seat c.args.line.now in
    let s = g.L.Line.stands c.args.line.now in
    let u = g.L.Line.stands c.load-word.new.self in
    let v = g.L.Line.stands c.seek-slot.new.line in
    let its = c.requires.at.0 in
    let goes = c.requires.at.1 in
    let base = c.first_slot_of-first.result in
    let at = first_at its k c.args.op s c.args.going.now (home_of c.args.going.now.bits (key_of c.args.op)) (key_of c.args.op) base c.args.going.now.places.overflow goes c.requires.at.2 refl refl c.first_slot_of-first.ensures.place refl in
    let then = slot_comes its base c.args.going.now.places.overflow 0 c.load-word.result s u at (leads_on its k c.args.op c.args.going.now k s u c.load-word.result goes refl c.load-word.ensures.next) in (
      its,
      goes_at its k c.args.op c.args.going.now (g.L.Line.seat c.seek-slot.new.line) goes (c.seek-slot.ensures.seat ∙ c.load-word.ensures.seat),
      some_of (λ (x : Slot). IsReached its x.place x.entry (entry_addr x.entry) v) c.seek-slot.result c.in-Some.its c.in-Some.is
          (c.seek-slot.ensures.found its (goes_at its k c.args.op c.args.going.now (g.L.Line.seat c.load-word.new.self) goes c.load-word.ensures.seat) then),
    )

pub returns-in-Some-clause-met : goal.returns-in-Some-clause-met
returns-in-Some-clause-met g c = λ its goes first.
    let k = g.L.Line.seat c.args.line.now in
    let s = g.L.Line.stands c.args.line.now in
    let u = g.L.Line.stands c.load-word.new.self in
    let v = g.L.Line.stands c.seek-slot.new.line in
    let base = c.first_slot_of-first.result in
    let at = first_at its k c.args.op s c.args.going.now (home_of c.args.going.now.bits (key_of c.args.op)) (key_of c.args.op) base c.args.going.now.places.overflow goes first refl refl c.first_slot_of-first.ensures.place refl in
    let then = slot_comes its base c.args.going.now.places.overflow 0 c.load-word.result s u at (leads_on its k c.args.op c.args.going.now k s u c.load-word.result goes refl c.load-word.ensures.next) in
    c.walk.ensures.met its (goes_at its k c.args.op c.args.going.now (g.L.Line.seat c.seek-slot.new.line) goes (c.seek-slot.ensures.seat ∙ c.load-word.ensures.seat))
    (some_of (λ (x : Slot). IsReached its x.place x.entry (entry_addr x.entry) v) c.seek-slot.result c.in-Some.its c.in-Some.is
    (c.seek-slot.ensures.found its (goes_at its k c.args.op c.args.going.now (g.L.Line.seat c.load-word.new.self) goes c.load-word.ensures.seat) then))
