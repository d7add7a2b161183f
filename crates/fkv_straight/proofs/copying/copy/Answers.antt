use Rattle.std.proofs.Common.{◌≡◌, ℕ, refl, sym, ◌∙◌, rules, subst, true, false}
use Rattle.std.specs.Prelude.{Option}
use Rattle.fkv_plane.specs.declared.asks.Ask.TheVariants.{Load}
use Rattle.fkv_plane.specs.declared.places.RecordWord.TheVariants as rec
use Rattle.fkv_straight.specs.Met.{IsAtReserve, limit_of}
use Rattle.fkv_straight.proofs.Copies.{copied_reserves, copied_loads, old_asks, old_comes}
use Rattle.fkv_straight.proofs.Goings.{blind_in, goes_at, leads_on, record_asks}
use Rattle.fkv_straight.proofs.copying.copy.Goals as goal

pub append-requires-clause-at : goal.append-requires-clause-at
append-requires-clause-at g c =
    let k = g.L.Line.seat c.args.line.now in
    let its = c.requires.at.0 in
    let goes = c.requires.at.1 in
    let so : c.is_blind-blind.result ≡ true = search rules in
    (its, goes, copied_reserves its c.args.its (g.L.Line.stands c.args.line.now) c.requires.at.2 (blind_in its k c.args.op c.args.going.now _ goes (sym c.is_blind-blind.ensures ∙ so)))

pub load-word-requires-clause-asked : goal.load-word-requires-clause-asked
load-word-requires-clause-asked g c =
    let k = g.L.Line.seat c.args.line.now in
    let s = g.L.Line.stands c.args.line.now in
    let its = c.requires.at.0 in
    let goes = c.requires.at.1 in
    let so : c.is_blind-blind.result ≡ false = search rules in
    let at = copied_loads its c.args.its s c.requires.at.2 (blind_in its k c.args.op c.args.going.now _ goes (sym c.is_blind-blind.ensures ∙ so)) in
    record_asks its k c.args.op c.args.going.now c.args.its.addr c.record-place.result rec.Value k s (λ (n : ℕ). Load n) goes refl c.record-place.ensures (old_asks its c.args.its s at)

pub append-requires-else-blind-clause-at : goal.append-requires-else-blind-clause-at
append-requires-else-blind-clause-at g c =
    let k = g.L.Line.seat c.args.line.now in
    let s = g.L.Line.stands c.args.line.now in
    let u = g.L.Line.stands c.load-word.new.self in
    let its = c.requires.at.0 in
    let goes = c.requires.at.1 in
    let so : c.is_blind-blind.result ≡ false = search rules in
    let at = copied_loads its c.args.its s c.requires.at.2 (blind_in its k c.args.op c.args.going.now _ goes (sym c.is_blind-blind.ensures ∙ so)) in
    let comes = old_comes its c.args.its c.load-word.result s u at (leads_on its k c.args.op c.args.going.now k s u c.load-word.result goes refl c.load-word.ensures.next) in (
      its,
      goes_at its k c.args.op c.args.going.now (g.L.Line.seat c.load-word.new.self) goes c.load-word.ensures.seat,
      subst (λ (old : Option ℕ). IsAtReserve its c.args.its.place c.args.its.entry old (limit_of its) u) (sym c.value_of_word-old.ensures) comes,
    )

pub returns-then-blind-clause-done : goal.returns-then-blind-clause-done
returns-then-blind-clause-done g c = λ its goes copied.
    let k = g.L.Line.seat c.args.line.now in
    let so : c.is_blind-blind.result ≡ true = search rules in
    c.append.ensures.done its goes (copied_reserves its c.args.its (g.L.Line.stands c.args.line.now) copied (blind_in its k c.args.op c.args.going.now _ goes (sym c.is_blind-blind.ensures ∙ so)))

pub returns-else-blind-clause-done : goal.returns-else-blind-clause-done
returns-else-blind-clause-done g c = λ its goes copied.
    let k = g.L.Line.seat c.args.line.now in
    let s = g.L.Line.stands c.args.line.now in
    let u = g.L.Line.stands c.load-word.new.self in
    let so : c.is_blind-blind.result ≡ false = search rules in
    let at = copied_loads its c.args.its s copied (blind_in its k c.args.op c.args.going.now _ goes (sym c.is_blind-blind.ensures ∙ so)) in
    let comes = old_comes its c.args.its c.load-word.result s u at (leads_on its k c.args.op c.args.going.now k s u c.load-word.result goes refl c.load-word.ensures.next) in
    c.append-else-blind.ensures.done its (goes_at its k c.args.op c.args.going.now (g.L.Line.seat c.load-word.new.self) goes c.load-word.ensures.seat)
    (subst (λ (old : Option ℕ). IsAtReserve its c.args.its.place c.args.its.entry old (limit_of its) u) (sym c.value_of_word-old.ensures) comes)
