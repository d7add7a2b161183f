use Rattle.std.proofs.Common.{ℕ, ◌+◌, ◌≤◌, arith, refl, subst}
use Rattle.fkv_plane.specs.declared.asks.Ask.TheVariants.{Load}
use Rattle.fkv_plane.specs.declared.places.RecordWord.TheVariants as rec
use Rattle.fkv_straight.specs.declared.searching.Met.{Met}
use Rattle.fkv_straight.specs.Met.{HasMet}
use Rattle.fkv_straight.proofs.Goings.{leads_on, reads_calm, record_asks, record_past, updates_in, value_at}
use Rattle.fkv_straight.proofs.ReadEnds.{answer_asks, found_ends, absent_ends, nowhere_ends}
use Rattle.fkv_straight.proofs.reading.tell.Goals as goal

pub load_past-value-requires-clause-asked : goal.load_past-value-requires-clause-asked
load_past-value-requires-clause-asked g c =
    let k = g.L.Line.seat c.args.line.now in
    let its = c.requires.at.0 in
    let goes = c.requires.at.1 in
    let u = g.L.Line.stands c.args.line.now in
    let met = subst (λ (m : Met). HasMet its m u) c.in-Found.is c.requires.at.2 in
    record_asks its k c.args.op c.args.going.now c.in-Found.record.addr (c.in-Found.record.at + 2) rec.Value k u (λ (n : ℕ). Load n) goes refl
    (value_at its k c.args.op c.args.going.now c.in-Found.record.addr c.in-Found.record.at goes met.at)
    (answer_asks its c.in-Found.record u met (reads_calm its k c.args.op c.args.going.now goes c.requires.reads) (updates_in its k c.args.op c.args.going.now _ goes c.requires.reads))

pub load_past-value-requires-clause-past : goal.load_past-value-requires-clause-past
load_past-value-requires-clause-past g c =
    let its = c.requires.at.0 in
    let met = subst (λ (m : Met). HasMet its m (g.L.Line.stands c.args.line.now)) c.in-Found.is c.requires.at.2 in
    let past = record_past its.seat.places c.in-Found.record.addr c.in-Found.record.at rec.Header met.at in omega (arith, past)

pub returns-then-value-clause-ended : goal.returns-then-value-clause-ended
returns-then-value-clause-ended g c = λ its goes bounds calls at.
    let k = g.L.Line.seat c.args.line.now in
    let u = g.L.Line.stands c.args.line.now in
    let v = g.L.Line.stands c.load_past-value.new.self in
    absent_ends its c.in-Found.record c.load_past-value.result u v calls (subst (λ (m : Met). HasMet its m u) c.in-Found.is at) (reads_calm its k c.args.op c.args.going.now goes c.requires.reads) (updates_in its k c.args.op c.args.going.now _ goes c.requires.reads)
    (leads_on its k c.args.op c.args.going.now k u v c.load_past-value.result goes refl c.load_past-value.ensures.next) c.if-value.true

pub returns-else-value-clause-ended : goal.returns-else-value-clause-ended
returns-else-value-clause-ended g c = λ its goes bounds calls at.
    let k = g.L.Line.seat c.args.line.now in
    let u = g.L.Line.stands c.args.line.now in
    let v = g.L.Line.stands c.load_past-value.new.self in
    found_ends its c.in-Found.record c.load_past-value.result u v calls (subst (λ (m : Met). HasMet its m u) c.in-Found.is at) (reads_calm its k c.args.op c.args.going.now goes c.requires.reads) (updates_in its k c.args.op c.args.going.now _ goes c.requires.reads)
    (leads_on its k c.args.op c.args.going.now k u v c.load_past-value.result goes refl c.load_past-value.ensures.next) c.if-value.false

pub returns-in-Nowhere-clause-ended : goal.returns-in-Nowhere-clause-ended
returns-in-Nowhere-clause-ended g c = λ its goes bounds calls at.
    let k = g.L.Line.seat c.args.line.now in
    let u = g.L.Line.stands c.args.line.now in
    let slot = c.in-Nowhere.field-0 in
    nowhere_ends its slot.place slot.entry u calls (subst (λ (m : Met). HasMet its m u) c.in-Nowhere.is at) (reads_calm its k c.args.op c.args.going.now goes c.requires.reads) (updates_in its k c.args.op c.args.going.now _ goes c.requires.reads)

pub returns-in-OnDisk-clause-left : goal.returns-in-OnDisk-clause-left
returns-in-OnDisk-clause-left g c = λ its at.
    let slot = c.in-OnDisk.slot in
    let met = subst (λ (m : Met). HasMet its m (g.L.Line.stands c.args.line.now)) c.in-OnDisk.is at in
    (slot.place, met.0, met.1, met.2)
