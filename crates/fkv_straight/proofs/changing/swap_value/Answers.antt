use Rattle.std.proofs.Common.{◌+◌, ◌≡◌, ℕ, arith, refl, sym, ap, ◌∙◌, subst}
use Rattle.std.specs.Prelude.{None}
use Rattle.fkv_map.specs.Keys.{value_applied, reply_from}
use Rattle.fkv_map.specs.declared.operations.Op.{Op}
use Rattle.fkv_map.specs.declared.operations.Reply.{Reply}
use Rattle.fkv_plane.specs.declared.asks.Ask.TheVariants.{Swap}
use Rattle.fkv_plane.specs.declared.places.RecordWord.TheVariants as rec
use Rattle.fkv_plane.specs.Places.{record_place}
use Rattle.fkv_ops.specs.Values.{word_of}
use Rattle.fkv_straight.specs.Met.{HasChanged}
use Rattle.fkv_straight.proofs.Changes.{met_by, may_change, met_swaps, swap_asks, swap_changes}
use Rattle.fkv_straight.proofs.Goings.{record_asks, record_past, leads_on, updates_in, blind_in, value_at}
use Rattle.fkv_straight.proofs.changing.swap_value.Goals as goal

pub swap_past-requires-clause-asked : goal.swap_past-requires-clause-asked
swap_past-requires-clause-asked g c =
    let k = g.L.Line.seat c.args.line.now in
    let s = g.L.Line.stands c.args.line.now in
    let its = c.requires.at.0 in
    let goes = c.requires.at.1 in
    let updates = updates_in its k c.args.op c.args.going.now _ goes c.requires.updates in
    let blind = blind_in its k c.args.op c.args.going.now _ goes c.requires.blind in
    let at = met_swaps its c.args.its s c.requires.at.2 (met_by its c.args.its s c.requires.at.2 (c.requires.stays its goes) updates) (may_change its k c.args.op c.args.going.now c.args.its goes c.requires.mutable c.requires.own) blind in
    let new : word_of (value_applied None its.op) ≡ c.word_of_value-new.result =
    ap (λ (x : Op). word_of (value_applied None x)) goes.its_op ∙ sym (c.word_of_value-new.ensures ∙ ap word_of c.value_applied-made.ensures) in
    record_asks its k c.args.op c.args.going.now c.args.its.addr (c.args.its.at + 2) rec.Value k s (λ (n : ℕ). Swap n c.word_of_value-new.result) goes refl (value_at its k c.args.op c.args.going.now c.args.its.addr c.args.its.at goes c.requires.at.2.at)
    (swap_asks its c.args.its.addr s at ∙ ap (λ (n : ℕ). Swap (record_place its.seat.places c.args.its.addr rec.Value) n) new)

pub swap_past-requires-clause-past : goal.swap_past-requires-clause-past
swap_past-requires-clause-past g c =
    let past = record_past c.requires.at.0.seat.places c.args.its.addr c.args.its.at rec.Header c.requires.at.2.at in omega (arith, past)

pub returns-clause-done : goal.returns-clause-done
returns-clause-done g c = λ its goes met.
    let k = g.L.Line.seat c.args.line.now in
    let s = g.L.Line.stands c.args.line.now in
    let u = g.L.Line.stands c.swap_past.new.self in
    let updates = updates_in its k c.args.op c.args.going.now _ goes c.requires.updates in
    let blind = blind_in its k c.args.op c.args.going.now _ goes c.requires.blind in
    let at = met_swaps its c.args.its s met (met_by its c.args.its s met (c.requires.stays its goes) updates) (may_change its k c.args.op c.args.going.now c.args.its goes c.requires.mutable c.requires.own) blind in
    subst (λ (x : Reply). HasChanged its x u) (ap (λ (x : Op). reply_from None x) goes.its_op ∙ sym c.reply_from.ensures)
    (swap_changes its c.args.its.addr c.swap_past.result s u at (leads_on its k c.args.op c.args.going.now k s u c.swap_past.result goes refl c.swap_past.ensures.next))
