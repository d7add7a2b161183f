use Rattle.std.proofs.Common.{◌≡◌, ℕ, ◌+◌, ◌-◌, sym, ap, ◌∙◌, subst, arith}
use Rattle.fkv_index.specs.Slots.{entry_addr}
use Rattle.fkv_plane.specs.declared.asks.Ask.TheVariants.{Load}
use Rattle.fkv_straight.specs.declared.searching.Slot.{Slot}
use Rattle.fkv_straight.specs.declared.searching.Sought.{Sought}
use Rattle.fkv_straight.specs.declared.searching.Sought.TheVariants.{At}
use Rattle.fkv_straight.specs.Met.{HasSlot, IsReached}
use Rattle.fkv_straight.proofs.Goings.{leads_on, place_asks}
use Rattle.fkv_straight.proofs.Seeks.{all_passed, ends_here, other_passed, owns, slot_asks, slot_comes}
use Rattle.fkv_straight.proofs.searching.seek_in.Goals as goal

abbrev slot_in : Sought → Slot → Slot
slot_in (At its) other = its
slot_in its other = other

pub returns-in-Here-clause-found : goal.returns-in-Here-clause-found
returns-in-Here-clause-found g c = λ its is course goes has.
    let k = g.L.Line.seat c.args.line.now in
    let s = g.L.Line.stands c.slots.line in
    let there = ends_here course k c.args.op c.args.going.now c.args.tag c.args.base (c.args.going.now.places.overflow - c.args.passed) c.slots.slot c.slots.word s goes c.requires.tag (owns course k c.args.op c.args.going.now c.args.passed c.slots.word goes (sym c.is_counted-counted.ensures ∙ c.if-counted.false)) (c.slots.invariant.stands course goes has) (c.judge-judged.ensures.here c.in-Here.is) in
    subst (λ (x : Slot). IsReached course x.place x.entry (entry_addr x.entry) s) (ap (λ (x : Sought). slot_in x its) is) there

pub load_past-word-requires-clause-asked : goal.load_past-word-requires-clause-asked
load_past-word-requires-clause-asked g c =
    let k = g.L.Line.seat c.args.line.now in
    let its = c.requires.at.0 in
    let goes = c.requires.at.1 in
    let now = g.L.Line.stands c.slots.line in
    let links = c.args.going.now.places.overflow - c.args.passed in
    let at = other_passed its k c.args.op c.args.going.now c.args.tag c.args.base links c.slots.slot c.slots.word now goes c.requires.tag (c.slots.invariant.stands its goes c.requires.at.2) (c.judge-judged.ensures.other c.in-Other.is) (let h = c.slots-test.true in omega (arith, h)) in
    place_asks its k c.args.op c.args.going.now (c.args.base + (c.slots.slot + 1)) (c.args.base + c.slots.slot + 1) (g.L.Line.seat c.slots.line) now (λ (n : ℕ). Load n) goes c.slots.invariant.seat (omega arith)
    (slot_asks its c.args.base links (c.slots.slot + 1) now at)

pub slots-preserved : goal.slots-preserved
slots-preserved g c =
    let k = g.L.Line.seat c.args.line.now in
    let now = g.L.Line.stands c.slots.line in
    let links = c.args.going.now.places.overflow - c.args.passed in
    record {
      seat = c.load_past-word.ensures.seat ∙ c.slots.invariant.seat;
      led = λ start call led. c.load_past-word.ensures.led start call (c.slots.invariant.led start call led);
      kept = (let e = c.load_past-word.ensures.kept in let i = c.slots.invariant.kept in omega (arith, e, i));
      stands = λ its goes has.
          let at = other_passed its k c.args.op c.args.going.now c.args.tag c.args.base links c.slots.slot c.slots.word now goes c.requires.tag (c.slots.invariant.stands its goes has) (c.judge-judged.ensures.other c.in-Other.is) (let h = c.slots-test.true in omega (arith, h)) in
          slot_comes its c.args.base links (c.slots.slot + 1) c.load_past-word.result now (g.L.Line.stands c.load_past-word.new.self) at
          (leads_on its k c.args.op c.args.going.now (g.L.Line.seat c.slots.line) now (g.L.Line.stands c.load_past-word.new.self) c.load_past-word.result goes c.slots.invariant.seat c.load_past-word.ensures.next);
    }

pub returns-else-counted-2-clause-found : goal.returns-else-counted-2-clause-found
returns-else-counted-2-clause-found g c = λ its is course goes has.
    let k = g.L.Line.seat c.args.line.now in
    let s = g.L.Line.stands c.slots.line in
    let links = c.args.going.now.places.overflow - c.args.passed in
    let last : c.slots.slot ≡ 6 = (let h = c.slots-test.false in let e = c.slots.auto.slot-end in omega (arith, h, e)) in
    let at = subst (λ (n : ℕ). HasSlot course c.args.base links n c.slots.word s) last (c.slots.invariant.stands course goes has) in
    let there = ends_here course k c.args.op c.args.going.now c.args.tag c.args.base links 6 c.slots.word s goes c.requires.tag (owns course k c.args.op c.args.going.now c.args.passed c.slots.word goes (sym c.is_counted-counted-in-Here-judged.ensures ∙ c.if-counted-2.false)) at (c.judge-judged-2.ensures.here c.in-Here-judged.is) in
    subst (λ (x : Slot). IsReached course x.place x.entry (entry_addr x.entry) s) (ap (λ (x : Sought). slot_in x its) is) there

pub returns-in-Other-judged-clause-passed : goal.returns-in-Other-judged-clause-passed
returns-in-Other-judged-clause-passed g c = λ is its goes has.
    let k = g.L.Line.seat c.args.line.now in
    let s = g.L.Line.stands c.slots.line in
    let links = c.args.going.now.places.overflow - c.args.passed in
    let last : c.slots.slot ≡ 6 = (let h = c.slots-test.false in let e = c.slots.auto.slot-end in omega (arith, h, e)) in
    let at = subst (λ (n : ℕ). HasSlot its c.args.base links n c.slots.word s) last (c.slots.invariant.stands its goes has) in
    all_passed its k c.args.op c.args.going.now c.args.tag c.args.base links c.slots.word s goes c.requires.tag at (c.judge-judged-2.ensures.other c.in-Other-judged.is)
