use Rattle.std.proofs.Common.{◌≡◌, ℕ, ◌+◌, ◌*◌, ◌^◌, refl, sym, ap, ◌∙◌}
use Rattle.fkv_map.specs.Keys.{as_number, key_of, value_applied}
use Rattle.fkv_map.specs.declared.operations.Op.{Op}
use Rattle.fkv_base.specs.declared.numbers.Key.{Key}
use Rattle.fkv_plane.specs.declared.asks.Ask.TheVariants.{Store}
use Rattle.fkv_plane.specs.declared.places.RecordWord.TheVariants as rec
use Rattle.fkv_plane.specs.Places.{record_place}
use Rattle.fkv_ops.specs.Values.{word_of}
use Rattle.fkv_straight.proofs.Appends.{value_asks, value_comes, key_stores, key_stored, header_is, header_stores, header_stored}
use Rattle.fkv_straight.proofs.Goings.{record_asks, leads_on}
use Rattle.fkv_straight.proofs.appending.fill.Goals as goal

pub store-requires-clause-asked : goal.store-requires-clause-asked
store-requires-clause-asked g c =
    let k = g.L.Line.seat c.args.line.now in
    let s = g.L.Line.stands c.args.line.now in
    let its = c.requires.at.0 in
    let goes = c.requires.at.1 in
    let old = as_number c.args.old in
    let new : word_of (value_applied old its.op) ≡ c.word_of_value-value.result =
    ap (λ (x : Op). word_of (value_applied old x)) goes.its_op ∙ sym (c.word_of_value-value.ensures ∙ ap word_of c.value_applied-made.ensures) in
    record_asks its k c.args.op c.args.going.now c.args.addr c.record-value_place.result rec.Value k s (λ (n : ℕ). Store n c.word_of_value-value.result) goes refl c.record-value_place.ensures
    (value_asks its c.args.slot.place c.args.slot.entry old c.args.addr s c.requires.at.2 ∙ ap (λ (n : ℕ). Store (record_place its.seat.places c.args.addr rec.Value) n) new)

pub store-requires-2-clause-asked : goal.store-requires-2-clause-asked
store-requires-2-clause-asked g c =
    let k = g.L.Line.seat c.args.line.now in
    let s = g.L.Line.stands c.args.line.now in
    let u = g.L.Line.stands c.store.new.self in
    let its = c.requires.at.0 in
    let goes = c.requires.at.1 in
    let old = as_number c.args.old in
    let at = value_comes its c.args.slot.place c.args.slot.entry old c.args.addr c.store.result s u c.requires.at.2 (leads_on its k c.args.op c.args.going.now k s u c.store.result goes refl c.store.ensures.next) in
    let key : (key_of its.op).0 ≡ c.key-key.result.0 = ap (λ (x : Op). (key_of x).0) goes.its_op ∙ ap (λ (x : Key). x.0) (sym c.key-key.ensures) in
    record_asks its k c.args.op c.args.going.now c.args.addr c.record-key_place.result rec.Key (g.L.Line.seat c.store.new.self) u (λ (n : ℕ). Store n c.key-key.result.0) goes c.store.ensures.seat c.record-key_place.ensures
    (key_stores its c.args.slot.place c.args.slot.entry old c.args.addr u at ∙ ap (λ (n : ℕ). Store (record_place its.seat.places c.args.addr rec.Key) n) key)

pub store-requires-3-clause-asked : goal.store-requires-3-clause-asked
store-requires-3-clause-asked g c =
    let k = g.L.Line.seat c.args.line.now in
    let s = g.L.Line.stands c.args.line.now in
    let u = g.L.Line.stands c.store.new.self in
    let v = g.L.Line.stands c.store-2.new.self in
    let its = c.requires.at.0 in
    let goes = c.requires.at.1 in
    let old = as_number c.args.old in
    let at = value_comes its c.args.slot.place c.args.slot.entry old c.args.addr c.store.result s u c.requires.at.2 (leads_on its k c.args.op c.args.going.now k s u c.store.result goes refl c.store.ensures.next) in
    let then = key_stored its c.args.slot.place c.args.slot.entry old c.args.addr c.store-2.result u v at (leads_on its k c.args.op c.args.going.now (g.L.Line.seat c.store.new.self) u v c.store-2.result goes c.store.ensures.seat c.store-2.ensures.next) in
    let header = header_is its c.args.slot.entry c.args.going.now.mark c.header_of-header.result goes.its_mark
    (c.header_of-header.ensures ∙ ap (λ (n : ℕ). n + c.args.going.now.mark * 2 ^ 48) c.addr_of-previous.ensures) in
    record_asks its k c.args.op c.args.going.now c.args.addr c.record-header_place.result rec.Header (g.L.Line.seat c.store-2.new.self) v (λ (n : ℕ). Store n c.header_of-header.result) goes (c.store-2.ensures.seat ∙ c.store.ensures.seat) c.record-header_place.ensures
    (header_stores its c.args.slot.place c.args.slot.entry old c.args.addr v then ∙ ap (λ (n : ℕ). Store (record_place its.seat.places c.args.addr rec.Header) n) header)

pub returns-clause-publishes : goal.returns-clause-publishes
returns-clause-publishes g c = λ its goes reserved.
    let k = g.L.Line.seat c.args.line.now in
    let s = g.L.Line.stands c.args.line.now in
    let u = g.L.Line.stands c.store.new.self in
    let v = g.L.Line.stands c.store-2.new.self in
    let w = g.L.Line.stands c.store-3.new.self in
    let old = as_number c.args.old in
    let at = value_comes its c.args.slot.place c.args.slot.entry old c.args.addr c.store.result s u reserved (leads_on its k c.args.op c.args.going.now k s u c.store.result goes refl c.store.ensures.next) in
    let then = key_stored its c.args.slot.place c.args.slot.entry old c.args.addr c.store-2.result u v at (leads_on its k c.args.op c.args.going.now (g.L.Line.seat c.store.new.self) u v c.store-2.result goes c.store.ensures.seat c.store-2.ensures.next) in
    header_stored its c.args.slot.place c.args.slot.entry old c.args.addr c.store-3.result v w then
    (leads_on its k c.args.op c.args.going.now (g.L.Line.seat c.store-2.new.self) v w c.store-3.result goes (c.store-2.ensures.seat ∙ c.store.ensures.seat) c.store-3.ensures.next)
