use Rattle.std.proofs.Common.{ℕ, ◌+◌, ◌-◌, refl, ap, ◌∙◌, arith, add-zero}
use Rattle.fkv_plane.specs.declared.asks.Ask.TheVariants.{Load}
use Rattle.fkv_straight.proofs.Goings.{goes_at, leads_on, place_asks}
use Rattle.fkv_straight.proofs.Seeks.{slot_asks, slot_comes, link_asks, link_comes, link_goes_on}
use Rattle.fkv_straight.proofs.searching.seek_on.Goals as goal

pub load-link-requires-clause-asked : goal.load-link-requires-clause-asked
load-link-requires-clause-asked g c =
    let k = g.L.Line.seat c.args.line.now in
    let its = c.requires.at.0 in
    let goes = c.requires.at.1 in
    let now = g.L.Line.stands c.links.line in
    let left = c.args.going.now.places.overflow - c.links.links in
    let at = c.links.invariant.stands its goes c.requires.at.2 in
    place_asks its k c.args.op c.args.going.now (c.links.base + 7) (c.links.base + 7) (g.L.Line.seat c.links.line) now (λ (n : ℕ). Load n) goes c.links.invariant.seat refl (link_asks its c.links.base left now at)

pub load-word-requires-clause-asked : goal.load-word-requires-clause-asked
load-word-requires-clause-asked g c =
    let k = g.L.Line.seat c.args.line.now in
    let its = c.requires.at.0 in
    let goes = c.requires.at.1 in
    let now = g.L.Line.stands c.links.line in
    let then = g.L.Line.stands c.load-link.new.self in
    let left = c.args.going.now.places.overflow - c.links.links in
    let next = c.overflow-base.result in
    let here = c.links.invariant.seat in
    let at = c.links.invariant.stands its goes c.requires.at.2 in
    let has = link_comes its c.links.base left c.load-link.result now then at (leads_on its k c.args.op c.args.going.now (g.L.Line.seat c.links.line) now then c.load-link.result goes here c.load-link.ensures.next) in
    let on = link_goes_on its k c.args.op c.args.going.now c.links.base c.links.links c.load-link.result c.addr_of-number.result next then goes has c.addr_of-number.ensures c.if-number-eq0.false c.if-number-going.false c.if-links-going.false c.overflow-base.ensures in
    place_asks its k c.args.op c.args.going.now next next (g.L.Line.seat c.load-link.new.self) then (λ (n : ℕ). Load n) goes (c.load-link.ensures.seat ∙ here) refl
    (slot_asks its next (c.args.going.now.places.overflow - (c.links.links + 1)) 0 then on ∙ ap (λ (n : ℕ). Load n) (add-zero next))

pub seek_in-sought-requires-clause-at : goal.seek_in-sought-requires-clause-at
seek_in-sought-requires-clause-at g c =
    let k = g.L.Line.seat c.args.line.now in
    let its = c.requires.at.0 in
    let goes = c.requires.at.1 in
    let now = g.L.Line.stands c.links.line in
    let then = g.L.Line.stands c.load-link.new.self in
    let last = g.L.Line.stands c.load-word.new.self in
    let left = c.args.going.now.places.overflow - c.links.links in
    let next = c.overflow-base.result in
    let here = c.links.invariant.seat in
    let at = c.links.invariant.stands its goes c.requires.at.2 in
    let has = link_comes its c.links.base left c.load-link.result now then at (leads_on its k c.args.op c.args.going.now (g.L.Line.seat c.links.line) now then c.load-link.result goes here c.load-link.ensures.next) in
    let on = link_goes_on its k c.args.op c.args.going.now c.links.base c.links.links c.load-link.result c.addr_of-number.result next then goes has c.addr_of-number.ensures c.if-number-eq0.false c.if-number-going.false c.if-links-going.false c.overflow-base.ensures in
    let come = slot_comes its next (c.args.going.now.places.overflow - (c.links.links + 1)) 0 c.load-word.result then last on
    (leads_on its k c.args.op c.args.going.now (g.L.Line.seat c.load-link.new.self) then last c.load-word.result goes (c.load-link.ensures.seat ∙ here) c.load-word.ensures.next) in
    (its, goes_at its k c.args.op c.args.going.now (g.L.Line.seat c.load-word.new.self) goes (c.load-word.ensures.seat ∙ (c.load-link.ensures.seat ∙ here)), come)

pub seek_in-sought-requires-clause-fits : goal.seek_in-sought-requires-clause-fits
seek_in-sought-requires-clause-fits g c =
    let e = c.overflow-base.ensures in let p = c.args.going.now.places.few_sessions in let f = c.args.going.now.places.few_buckets in let o = c.args.going.now.places.few_overflow in let n = c.if-number-going.false in omega (arith, e, p, f, o, n)

pub returns-in-At-clause-found : goal.returns-in-At-clause-found
returns-in-At-clause-found g c = λ its goes reached.
    let k = g.L.Line.seat c.args.line.now in
    let now = g.L.Line.stands c.links.line in
    let then = g.L.Line.stands c.load-link.new.self in
    let last = g.L.Line.stands c.load-word.new.self in
    let left = c.args.going.now.places.overflow - c.links.links in
    let next = c.overflow-base.result in
    let here = c.links.invariant.seat in
    let at = c.links.invariant.stands its goes reached in
    let has = link_comes its c.links.base left c.load-link.result now then at (leads_on its k c.args.op c.args.going.now (g.L.Line.seat c.links.line) now then c.load-link.result goes here c.load-link.ensures.next) in
    let on = link_goes_on its k c.args.op c.args.going.now c.links.base c.links.links c.load-link.result c.addr_of-number.result next then goes has c.addr_of-number.ensures c.if-number-eq0.false c.if-number-going.false c.if-links-going.false c.overflow-base.ensures in
    let come = slot_comes its next (c.args.going.now.places.overflow - (c.links.links + 1)) 0 c.load-word.result then last on
    (leads_on its k c.args.op c.args.going.now (g.L.Line.seat c.load-link.new.self) then last c.load-word.result goes (c.load-link.ensures.seat ∙ here) c.load-word.ensures.next) in
    c.seek_in-sought.ensures.found c.in-At.slot c.in-At.is its (goes_at its k c.args.op c.args.going.now (g.L.Line.seat c.load-word.new.self) goes (c.load-word.ensures.seat ∙ (c.load-link.ensures.seat ∙ here))) come

pub links-preserved : goal.links-preserved
links-preserved g c =
    let k = g.L.Line.seat c.args.line.now in
    let now = g.L.Line.stands c.links.line in
    let then = g.L.Line.stands c.load-link.new.self in
    let last = g.L.Line.stands c.load-word.new.self in
    let left = c.args.going.now.places.overflow - c.links.links in
    let next = c.overflow-base.result in
    let here = c.links.invariant.seat in
    record {
      within = (let h = c.if-links-going.false in omega (arith, h));
      fits = (let e = c.overflow-base.ensures in let p = c.args.going.now.places.few_sessions in let f = c.args.going.now.places.few_buckets in let o = c.args.going.now.places.few_overflow in let n = c.if-number-going.false in omega (arith, e, p, f, o, n));
      seat = c.seek_in-sought.ensures.seat ∙ (c.load-word.ensures.seat ∙ (c.load-link.ensures.seat ∙ here));
      led = λ start call led. c.seek_in-sought.ensures.led start call (c.load-word.ensures.led start call (c.load-link.ensures.led start call (c.links.invariant.led start call led)));
      kept = (let e = c.load-word.ensures.kept in let f = c.load-link.ensures.kept in let h = c.seek_in-sought.ensures.kept in let i = c.links.invariant.kept in omega (arith, e, f, h, i));
      stands = λ its goes has_come.
          let at = c.links.invariant.stands its goes has_come in
          let has = link_comes its c.links.base left c.load-link.result now then at (leads_on its k c.args.op c.args.going.now (g.L.Line.seat c.links.line) now then c.load-link.result goes here c.load-link.ensures.next) in
          let on = link_goes_on its k c.args.op c.args.going.now c.links.base c.links.links c.load-link.result c.addr_of-number.result next then goes has c.addr_of-number.ensures c.if-number-eq0.false c.if-number-going.false c.if-links-going.false c.overflow-base.ensures in
          let come = slot_comes its next (c.args.going.now.places.overflow - (c.links.links + 1)) 0 c.load-word.result then last on
          (leads_on its k c.args.op c.args.going.now (g.L.Line.seat c.load-link.new.self) then last c.load-word.result goes (c.load-link.ensures.seat ∙ here) c.load-word.ensures.next) in
          c.seek_in-sought.ensures.passed c.in-Passed.is its (goes_at its k c.args.op c.args.going.now (g.L.Line.seat c.load-word.new.self) goes (c.load-word.ensures.seat ∙ (c.load-link.ensures.seat ∙ here))) come;
    }
