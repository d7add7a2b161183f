-- A record to which the walk has come is the key's own, or leads on to the one before it.
use Rattle.std.proofs.Common.{◌≡◌, ◌+◌, ℕ, refl, sym, ap, ◌∙◌, subst, arith}
use Rattle.fkv_base.specs.declared.numbers.Key.{Key}
use Rattle.fkv_map.specs.Keys.{key_of}
use Rattle.fkv_map.specs.declared.operations.Op.{Op}
use Rattle.fkv_plane.specs.declared.asks.Ask.TheVariants.{Load}
use Rattle.fkv_plane.specs.declared.places.RecordWord.TheVariants as rec
use Rattle.fkv_straight.specs.declared.searching.Record.{Record}
use Rattle.fkv_straight.specs.declared.searching.Visited.{Visited}
use Rattle.fkv_straight.specs.declared.searching.Visited.TheVariants.{Own, Other}
use Rattle.fkv_straight.specs.Met.{HasKey, IsMet, IsReached}
use Rattle.fkv_straight.proofs.Goings.{key_at, record_asks, record_is, record_past, leads_on, memory_is}
use Rattle.fkv_straight.proofs.Tests.{previous_said, says_previous}
use Rattle.fkv_straight.proofs.Walks.{reached_here, header_asks, header_comes, key_asks, key_comes, key_passed}
use Rattle.fkv_straight.proofs.searching.visit.Goals as goal

abbrev record_in : Visited → Record → Record
record_in (Own its) other = its
record_in its other = other

abbrev next_in : Visited → ℕ → ℕ
next_in (Other next) other = next
next_in its other = other

pub load_past-header-requires-clause-asked : goal.load_past-header-requires-clause-asked
load_past-header-requires-clause-asked g c =
    let its = c.requires.at.0 in
    let goes = c.requires.at.1 in
    let k = g.L.Line.seat c.args.line.now in
    let place = c.args.slot.place in
    let entry = c.args.slot.entry in
    let addr = c.args.addr in
    let now = g.L.Line.stands c.args.line.now in
    let here = memory_is its k c.args.op c.args.going.now addr _ goes refl c.requires.here in
    let at = reached_here its place entry addr now c.requires.at.2 here in
    record_asks its k c.args.op c.args.going.now addr c.record-at.result rec.Header k now (λ (n : ℕ). Load n) goes refl c.record-at.ensures
    (header_asks its place entry addr now at)

pub load_past-header-requires-clause-past : goal.load_past-header-requires-clause-past
load_past-header-requires-clause-past g c = record_past c.args.going.now.places c.args.addr c.record-at.result rec.Header c.record-at.ensures

pub load_past-found-requires-clause-past : goal.load_past-found-requires-clause-past
load_past-found-requires-clause-past g c =
    let past = record_past c.args.going.now.places c.args.addr c.record-at.result rec.Header c.record-at.ensures in omega (arith, past)

pub load_past-found-requires-clause-asked : goal.load_past-found-requires-clause-asked
load_past-found-requires-clause-asked g c =
    let its = c.requires.at.0 in
    let goes = c.requires.at.1 in
    let k = g.L.Line.seat c.args.line.now in
    let place = c.args.slot.place in
    let entry = c.args.slot.entry in
    let addr = c.args.addr in
    let now = g.L.Line.stands c.args.line.now in
    let here = memory_is its k c.args.op c.args.going.now addr _ goes refl c.requires.here in
    let at = reached_here its place entry addr now c.requires.at.2 here in
    let then = g.L.Line.stands c.load_past-header.new.self in
    let with_header = header_comes its place entry addr c.load_past-header.result now then at (leads_on its k c.args.op c.args.going.now k now then c.load_past-header.result goes refl c.load_past-header.ensures.next) in
    record_asks its k c.args.op c.args.going.now addr (c.record-at.result + 1) rec.Key (g.L.Line.seat c.load_past-header.new.self) then (λ (n : ℕ). Load n) goes c.load_past-header.ensures.seat
    (key_at c.args.going.now.places addr c.record-at.result c.record-at.ensures)
    (key_asks its place entry addr c.load_past-header.result then with_header)

pub returns-then-found-key-clause-own : goal.returns-then-found-key-clause-own
returns-then-found-key-clause-own g c = λ own is its goes reached.
    let k = g.L.Line.seat c.args.line.now in
    let place = c.args.slot.place in
    let entry = c.args.slot.entry in
    let addr = c.args.addr in
    let now = g.L.Line.stands c.args.line.now in
    let here = memory_is its k c.args.op c.args.going.now addr _ goes refl c.requires.here in
    let at = reached_here its place entry addr now reached here in
    let then = g.L.Line.stands c.load_past-header.new.self in
    let with_header = header_comes its place entry addr c.load_past-header.result now then at (leads_on its k c.args.op c.args.going.now k now then c.load_past-header.result goes refl c.load_past-header.ensures.next) in
    let last = g.L.Line.stands c.load_past-found.new.self in
    let has = key_comes its place entry addr c.load_past-header.result c.load_past-found.result then last with_header
    (leads_on its k c.args.op c.args.going.now (g.L.Line.seat c.load_past-header.new.self) then last c.load_past-found.result goes c.load_past-header.ensures.seat c.load_past-found.ensures.next) in
    let mine : c.key-key.result.0 ≡ (key_of its.op).0 = ap (λ (x : Key). x.0) c.key-key.ensures ∙ ap (λ (x : Op). (key_of x).0) (sym goes.its_op) in
    let made : Record = record { place = place; entry = entry; addr = addr; header = c.load_past-header.result; mark = c.in-Says.version.0; at = c.record-at.result } in
    let said = sym c.header_said-said.ensures ∙ c.in-Says.is in
    let met : IsMet its made last = record {
      key = subst (λ (n : ℕ). HasKey its place entry addr c.load_past-header.result n last) (c.if-found-key.true ∙ mine) has;
      said = says_previous c.load_past-header.result c.in-Says.previous c.in-Says.version said;
      below = (let same = previous_said c.load_past-header.result c.in-Says.previous c.in-Says.version said in omega (arith, same));
      here = here;
      at = sym (record_is its k c.args.op c.args.going.now addr c.record-at.result rec.Header goes c.record-at.ensures);
    } in
    subst (λ (x : Record). IsMet its x last) (ap (λ (x : Visited). record_in x own) is) met

pub returns-clause-other : goal.returns-clause-other
returns-clause-other g c = λ next is its goes reached.
    let k = g.L.Line.seat c.args.line.now in
    let place = c.args.slot.place in
    let entry = c.args.slot.entry in
    let addr = c.args.addr in
    let now = g.L.Line.stands c.args.line.now in
    let here = memory_is its k c.args.op c.args.going.now addr _ goes refl c.requires.here in
    let at = reached_here its place entry addr now reached here in
    let then = g.L.Line.stands c.load_past-header.new.self in
    let with_header = header_comes its place entry addr c.load_past-header.result now then at (leads_on its k c.args.op c.args.going.now k now then c.load_past-header.result goes refl c.load_past-header.ensures.next) in
    let last = g.L.Line.stands c.load_past-found.new.self in
    let has = key_comes its place entry addr c.load_past-header.result c.load_past-found.result then last with_header
    (leads_on its k c.args.op c.args.going.now (g.L.Line.seat c.load_past-header.new.self) then last c.load_past-found.result goes c.load_past-header.ensures.seat c.load_past-found.ensures.next) in
    let mine : c.key-key.result.0 ≡ (key_of its.op).0 = ap (λ (x : Key). x.0) c.key-key.ensures ∙ ap (λ (x : Op). (key_of x).0) (sym goes.its_op) in
    let on = key_passed its place entry addr c.load_past-header.result c.load_past-found.result c.in-Says.previous c.in-Says.version last has (sym c.header_said-said.ensures ∙ c.in-Says.is) (omega arith) (λ e. c.if-found-key.false (e ∙ sym mine)) in
    subst (λ (n : ℕ). IsReached its place entry n last) (ap (λ (x : Visited). next_in x next) is) on
