use Rattle.std.proofs.Common.{◌≡◌, ℕ, refl, sym, ◌∙◌, arith, false}
use Rattle.std.specs.Prelude.{nat_le}
use Rattle.std.proofs.lemmas.Bool.Decides.{nat_tests}
use Rattle.fkv_plane.specs.declared.asks.Ask.TheVariants.{Load}
use Rattle.fkv_plane.specs.declared.places.SharedWord.TheVariants as one
use Rattle.fkv_plane.specs.Places.{shared_place}
use Rattle.fkv_straight.specs.Met.{IsCopied}
use Rattle.fkv_straight.proofs.Changes.{calm_stays, met_by}
use Rattle.fkv_straight.proofs.Copies.{met_safe, safe_asks, safe_comes, still_copied, own_copied, is_low, is_own}
use Rattle.fkv_straight.proofs.Goings.{calm_in, goes_at, leads_on, place_asks, updates_in}
use Rattle.fkv_straight.proofs.copying.copy_below.Goals.{else-going-via-then-going+else-not-own, else-going-via-else-going}
use Rattle.fkv_straight.proofs.copying.copy_below.Goals as goal

pub load-safe-requires-clause-asked : goal.load-safe-requires-clause-asked
load-safe-requires-clause-asked g c =
    let k = g.L.Line.seat c.args.line.now in
    let s = g.L.Line.stands c.args.line.now in
    let its = c.requires.at.0 in
    let goes = c.requires.at.1 in
    let met = met_by its c.args.its s c.requires.at.2 (calm_stays its c.args.its (calm_in its k c.args.op c.args.going.now goes c.requires.calm)) (updates_in its k c.args.op c.args.going.now _ goes c.requires.updates) in
    place_asks its k c.args.op c.args.going.now (shared_place one.SafeReadOnly) c.place-place.result k s (λ (n : ℕ). Load n) goes refl (sym c.place-place.ensures)
    (safe_asks its c.args.its s (met_safe its c.args.its s c.requires.at.2 met (is_low its k c.args.op c.args.going.now c.args.its goes c.requires.below)))

pub copy-requires-clause-at : goal.copy-requires-clause-at
copy-requires-clause-at g c =
    let k = g.L.Line.seat c.args.line.now in
    let s = g.L.Line.stands c.args.line.now in
    let u = g.L.Line.stands c.load-safe.new.self in
    let its = c.requires.at.0 in
    let goes = c.requires.at.1 in
    let met = met_by its c.args.its s c.requires.at.2 (calm_stays its c.args.its (calm_in its k c.args.op c.args.going.now goes c.requires.calm)) (updates_in its k c.args.op c.args.going.now _ goes c.requires.updates) in
    let at = met_safe its c.args.its s c.requires.at.2 met (is_low its k c.args.op c.args.going.now c.args.its goes c.requires.below) in
    let has = safe_comes its c.args.its c.load-safe.result s u at (leads_on its k c.args.op c.args.going.now k s u c.load-safe.result goes refl c.load-safe.ensures.next) in
    let below : nat_le c.load-safe.result c.args.its.addr ≡ false = (let h = c.if-safe-its.false in grind (arith, nat_tests, h)) in
    let copied : IsCopied its c.args.its u = elim c.else-going.branch [
      | else-going-via-then-going+else-not-own w ↦ own_copied its c.args.its c.load-safe.result u has below (is_own its k c.args.op c.args.going.now c.args.its goes (sym c.is_surely_own-own.ensures ∙ w.if-not-own.false))
      | else-going-via-else-going w ↦ still_copied its c.args.its c.load-safe.result u has below (goes.moves_on ∙ w.if-going.false)
    ] in
    (its, goes_at its k c.args.op c.args.going.now (g.L.Line.seat c.load-safe.new.self) goes c.load-safe.ensures.seat, copied)

pub returns-clause-done : goal.returns-clause-done
returns-clause-done g c = λ its goes met.
    let k = g.L.Line.seat c.args.line.now in
    let s = g.L.Line.stands c.args.line.now in
    let u = g.L.Line.stands c.load-safe.new.self in
    let by = met_by its c.args.its s met (calm_stays its c.args.its (calm_in its k c.args.op c.args.going.now goes c.requires.calm)) (updates_in its k c.args.op c.args.going.now _ goes c.requires.updates) in
    let at = met_safe its c.args.its s met by (is_low its k c.args.op c.args.going.now c.args.its goes c.requires.below) in
    let has = safe_comes its c.args.its c.load-safe.result s u at (leads_on its k c.args.op c.args.going.now k s u c.load-safe.result goes refl c.load-safe.ensures.next) in
    let below : nat_le c.load-safe.result c.args.its.addr ≡ false = (let h = c.if-safe-its.false in grind (arith, nat_tests, h)) in
    let copied : IsCopied its c.args.its u = elim c.else-going.branch [
      | else-going-via-then-going+else-not-own w ↦ own_copied its c.args.its c.load-safe.result u has below (is_own its k c.args.op c.args.going.now c.args.its goes (sym c.is_surely_own-own.ensures ∙ w.if-not-own.false))
      | else-going-via-else-going w ↦ still_copied its c.args.its c.load-safe.result u has below (goes.moves_on ∙ w.if-going.false)
    ] in
    c.copy.ensures.done its (goes_at its k c.args.op c.args.going.now (g.L.Line.seat c.load-safe.new.self) goes c.load-safe.ensures.seat) copied
