use Rattle.std.proofs.Common.{◌≡◌, ◌+◌, ℕ, arith, refl, sym, ap, ◌∙◌, subst}
use Rattle.std.specs.Prelude.{Option}
use Rattle.fkv_map.specs.Keys.{value_applied, reply_from}
use Rattle.fkv_map.specs.declared.operations.Op.{Op}
use Rattle.fkv_map.specs.declared.operations.Reply.{Reply}
use Rattle.fkv_plane.specs.declared.asks.Ask.TheVariants.{Load, Cas}
use Rattle.fkv_plane.specs.declared.places.RecordWord.TheVariants as rec
use Rattle.fkv_plane.specs.Places.{record_place}
use Rattle.fkv_ops.specs.Values.{value_of, word_of}
use Rattle.fkv_straight.specs.Met.{HasChanged}
use Rattle.fkv_straight.proofs.Changes.{met_by, may_change, met_currents, current_asks, current_comes, change_asks, change_changes, change_loses}
use Rattle.fkv_straight.proofs.Goings.{record_asks, record_past, leads_on, updates_in, blind_in, value_at}
use Rattle.fkv_straight.proofs.changing.change_value.Goals as goal

pub load_past-old-requires-clause-asked : goal.load_past-old-requires-clause-asked
load_past-old-requires-clause-asked g c =
    let k = g.L.Line.seat c.args.line.now in
    let s = g.L.Line.stands c.args.line.now in
    let its = c.requires.at.0 in
    let goes = c.requires.at.1 in
    let updates = updates_in its k c.args.op c.args.going.now _ goes c.requires.updates in
    let seeing = blind_in its k c.args.op c.args.going.now _ goes c.requires.seeing in
    let at = met_currents its c.args.its s c.requires.at.2 (met_by its c.args.its s c.requires.at.2 (c.requires.stays its goes) updates) (may_change its k c.args.op c.args.going.now c.args.its goes c.requires.mutable c.requires.own) seeing in
    record_asks its k c.args.op c.args.going.now c.args.its.addr (c.args.its.at + 2) rec.Value k s (λ (n : ℕ). Load n) goes refl (value_at its k c.args.op c.args.going.now c.args.its.addr c.args.its.at goes c.requires.at.2.at) (current_asks its c.args.its s at)

pub load_past-old-requires-clause-past : goal.load_past-old-requires-clause-past
load_past-old-requires-clause-past g c =
    let past = record_past c.requires.at.0.seat.places c.args.its.addr c.args.its.at rec.Header c.requires.at.2.at in omega (arith, past)

pub cas_past-found-requires-clause-past : goal.cas_past-found-requires-clause-past
cas_past-found-requires-clause-past g c =
    let past = record_past c.requires.at.0.seat.places c.args.its.addr c.args.its.at rec.Header c.requires.at.2.at in omega (arith, past)

pub cas_past-found-requires-clause-asked : goal.cas_past-found-requires-clause-asked
cas_past-found-requires-clause-asked g c =
    let k = g.L.Line.seat c.args.line.now in
    let s = g.L.Line.stands c.args.line.now in
    let u = g.L.Line.stands c.load_past-old.new.self in
    let its = c.requires.at.0 in
    let goes = c.requires.at.1 in
    let updates = updates_in its k c.args.op c.args.going.now _ goes c.requires.updates in
    let seeing = blind_in its k c.args.op c.args.going.now _ goes c.requires.seeing in
    let at = met_currents its c.args.its s c.requires.at.2 (met_by its c.args.its s c.requires.at.2 (c.requires.stays its goes) updates) (may_change its k c.args.op c.args.going.now c.args.its goes c.requires.mutable c.requires.own) seeing in
    let comes = current_comes its c.args.its c.load_past-old.result s u at (leads_on its k c.args.op c.args.going.now k s u c.load_past-old.result goes refl c.load_past-old.ensures.next) in
    let new : word_of (value_applied (value_of c.load_past-old.result) its.op) ≡ c.word_of_value-new.result =
    ap (λ (x : Op). word_of (value_applied (value_of c.load_past-old.result) x)) goes.its_op
    ∙ sym (c.word_of_value-new.ensures ∙ ap word_of (c.value_applied-made.ensures ∙ ap (λ (v : Option ℕ). value_applied v c.args.op) c.value_of_word-value.ensures)) in
    record_asks its k c.args.op c.args.going.now c.args.its.addr (c.args.its.at + 2) rec.Value (g.L.Line.seat c.load_past-old.new.self) u (λ (n : ℕ). Cas n c.load_past-old.result c.word_of_value-new.result) goes c.load_past-old.ensures.seat (value_at its k c.args.op c.args.going.now c.args.its.addr c.args.its.at goes c.requires.at.2.at)
    (change_asks its c.args.its.addr c.load_past-old.result u comes ∙ ap (λ (n : ℕ). Cas (record_place its.seat.places c.args.its.addr rec.Value) c.load_past-old.result n) new)

pub returns-then-found-old-clause-done : goal.returns-then-found-old-clause-done
returns-then-found-old-clause-done g c = λ its goes met.
    let k = g.L.Line.seat c.args.line.now in
    let s = g.L.Line.stands c.args.line.now in
    let u = g.L.Line.stands c.load_past-old.new.self in
    let v = g.L.Line.stands c.cas_past-found.new.self in
    let updates = updates_in its k c.args.op c.args.going.now _ goes c.requires.updates in
    let seeing = blind_in its k c.args.op c.args.going.now _ goes c.requires.seeing in
    let at = met_currents its c.args.its s met (met_by its c.args.its s met (c.requires.stays its goes) updates) (may_change its k c.args.op c.args.going.now c.args.its goes c.requires.mutable c.requires.own) seeing in
    let comes = current_comes its c.args.its c.load_past-old.result s u at (leads_on its k c.args.op c.args.going.now k s u c.load_past-old.result goes refl c.load_past-old.ensures.next) in
    subst (λ (x : Reply). HasChanged its x v) (ap (λ (x : Op). reply_from (value_of c.load_past-old.result) x) goes.its_op ∙ (ap (λ (w : Option ℕ). reply_from w c.args.op) (sym c.value_of_word-value.ensures) ∙ sym c.reply_from-reply.ensures))
    (change_changes its c.args.its.addr c.load_past-old.result c.cas_past-found.result u v comes c.if-found-old.true
    (leads_on its k c.args.op c.args.going.now (g.L.Line.seat c.load_past-old.new.self) u v c.cas_past-found.result goes c.load_past-old.ensures.seat c.cas_past-found.ensures.next))

pub returns-else-found-old-clause-lost : goal.returns-else-found-old-clause-lost
returns-else-found-old-clause-lost g c = λ its goes met.
    let k = g.L.Line.seat c.args.line.now in
    let s = g.L.Line.stands c.args.line.now in
    let u = g.L.Line.stands c.load_past-old.new.self in
    let v = g.L.Line.stands c.cas_past-found.new.self in
    let updates = updates_in its k c.args.op c.args.going.now _ goes c.requires.updates in
    let seeing = blind_in its k c.args.op c.args.going.now _ goes c.requires.seeing in
    let at = met_currents its c.args.its s met (met_by its c.args.its s met (c.requires.stays its goes) updates) (may_change its k c.args.op c.args.going.now c.args.its goes c.requires.mutable c.requires.own) seeing in
    let comes = current_comes its c.args.its c.load_past-old.result s u at (leads_on its k c.args.op c.args.going.now k s u c.load_past-old.result goes refl c.load_past-old.ensures.next) in
    change_loses its c.args.its.addr c.load_past-old.result c.cas_past-found.result u v comes c.if-found-old.false
    (leads_on its k c.args.op c.args.going.now (g.L.Line.seat c.load_past-old.new.self) u v c.cas_past-found.result goes c.load_past-old.ensures.seat c.cas_past-found.ensures.next)
