use Rattle.std.proofs.Common.{ℕ, refl, ap, ◌∙◌, add-zero}
use Rattle.fkv_plane.specs.declared.asks.Ask.TheVariants.{Load}
use Rattle.fkv_index.specs.Slots.{entry_addr, home_of}
use Rattle.fkv_map.specs.Keys.{key_of}
use Rattle.fkv_straight.specs.declared.searching.Slot.{Slot}
use Rattle.fkv_straight.specs.Course.{course_of}
use Rattle.fkv_straight.specs.Met.{IsReached}
use Rattle.fkv_straight.specs.Standing.{begins}
use Rattle.fkv_straight.proofs.Goings.{goes_at, some_of}
use Rattle.fkv_straight.proofs.Seeks.{begun_at, first_at, slot_asks, slot_comes}
use Rattle.fkv_straight.proofs.searching.search.Goals as goal

pub first_past-word-requires-clause-asked : goal.first_past-word-requires-clause-asked
first_past-word-requires-clause-asked g c =
    let k = g.L.Line.seat c.args.line.now in
    let s = g.L.Line.stands c.args.line.now in
    let its = course_of k s c.args.op c.args.call in
    let base = c.first_slot_of-first.result in
    let now = begins k s c.args.call in
    let at = first_at its k c.args.op now c.args.going.now (home_of c.args.going.now.bits (key_of c.args.op)) (key_of c.args.op) base c.args.going.now.places.overflow c.requires.goes (begun_at its c.args.call s c.requires.begins c.requires.calm) refl refl c.first_slot_of-first.ensures.place refl in
    slot_asks its base c.args.going.now.places.overflow 0 now at ∙ ap (λ (n : ℕ). Load n) (add-zero base)

pub seek-slot-requires-clause-at : goal.seek-slot-requires-clause-at
seek-slot-requires-clause-at g c =
    let k = g.L.Line.seat c.args.line.now in
    let s = g.L.Line.stands c.args.line.now in
    let its = course_of k s c.args.op c.args.call in
    let base = c.first_slot_of-first.result in
    let now = begins k s c.args.call in
    let at = first_at its k c.args.op now c.args.going.now (home_of c.args.going.now.bits (key_of c.args.op)) (key_of c.args.op) base c.args.going.now.places.overflow c.requires.goes (begun_at its c.args.call s c.requires.begins c.requires.calm) refl refl c.first_slot_of-first.ensures.place refl in (
      its,
      goes_at its k c.args.op c.args.going.now (g.L.Line.seat c.first_past-word.new.self) c.requires.goes c.first_past-word.ensures.seat,
      slot_comes its base c.args.going.now.places.overflow 0 c.first_past-word.result now (g.L.Line.stands c.first_past-word.new.self) at c.first_past-word.ensures.next,
    )

pub walk-requires-clause-at : goal.walk-requires-clause-at
walk-requires-clause-at g c =
    let k = g.L.Line.seat c.args.line.now in
    let s = g.L.Line.stands c.args.line.now in
    let its = course_of k s c.args.op c.args.call in
    let base = c.first_slot_of-first.result in
    let now = begins k s c.args.call in
    let u = g.L.Line.stands c.seek-slot.new.line in
    let at = first_at its k c.args.op now c.args.going.now (home_of c.args.going.now.bits (key_of c.args.op)) (key_of c.args.op) base c.args.going.now.places.overflow c.requires.goes (begun_at its c.args.call s c.requires.begins c.requires.calm) refl refl c.first_slot_of-first.ensures.place refl in
    let then = slot_comes its base c.args.going.now.places.overflow 0 c.first_past-word.result now (g.L.Line.stands c.first_past-word.new.self) at c.first_past-word.ensures.next in
    let goes = goes_at its k c.args.op c.args.going.now (g.L.Line.seat c.first_past-word.new.self) c.requires.goes c.first_past-word.ensures.seat in (
      its,
      goes_at its k c.args.op c.args.going.now (g.L.Line.seat c.seek-slot.new.line) c.requires.goes (c.seek-slot.ensures.seat ∙ c.first_past-word.ensures.seat),
      some_of (λ (x : Slot). IsReached its x.place x.entry (entry_addr x.entry) u) c.seek-slot.result c.in-Some.its c.in-Some.is (c.seek-slot.ensures.found its goes then),
    )

pub returns-in-Some-clause-met : goal.returns-in-Some-clause-met
returns-in-Some-clause-met g c =
    let k = g.L.Line.seat c.args.line.now in
    let s = g.L.Line.stands c.args.line.now in
    let its = course_of k s c.args.op c.args.call in
    let base = c.first_slot_of-first.result in
    let now = begins k s c.args.call in
    let u = g.L.Line.stands c.seek-slot.new.line in
    let at = first_at its k c.args.op now c.args.going.now (home_of c.args.going.now.bits (key_of c.args.op)) (key_of c.args.op) base c.args.going.now.places.overflow c.requires.goes (begun_at its c.args.call s c.requires.begins c.requires.calm) refl refl c.first_slot_of-first.ensures.place refl in
    let then = slot_comes its base c.args.going.now.places.overflow 0 c.first_past-word.result now (g.L.Line.stands c.first_past-word.new.self) at c.first_past-word.ensures.next in
    let goes = goes_at its k c.args.op c.args.going.now (g.L.Line.seat c.first_past-word.new.self) c.requires.goes c.first_past-word.ensures.seat in
    c.walk.ensures.met its (goes_at its k c.args.op c.args.going.now (g.L.Line.seat c.seek-slot.new.line) c.requires.goes (c.seek-slot.ensures.seat ∙ c.first_past-word.ensures.seat))
    (some_of (λ (x : Slot). IsReached its x.place x.entry (entry_addr x.entry) u) c.seek-slot.result c.in-Some.its c.in-Some.is (c.seek-slot.ensures.found its goes then))
