use Rattle.std.proofs.Common.{◌∙◌, ℕ, sym, subst}
use Rattle.fkv_straight.specs.Met.{IsReached}
use Rattle.fkv_straight.proofs.Goings.{goes_at}
use Rattle.fkv_straight.proofs.searching.walk.Goals as goal

pub visit-visited-requires-clause-at : goal.visit-visited-requires-clause-at
visit-visited-requires-clause-at g c =
    let s = g.L.Line.stands c.args.line.now in
    (c.requires.at.0, c.requires.at.1, subst (λ (n : ℕ). IsReached c.requires.at.0 c.args.slot.place c.args.slot.entry n s) (sym c.addr_of-addr.ensures) c.requires.at.2)

pub visit-visited-requires-clause-here : goal.visit-visited-requires-clause-here
visit-visited-requires-clause-here g c = sym c.is_in_memory-is_here.ensures ∙ c.if-not-is_here.false

pub returns-then-not-is_here-clause-met : goal.returns-then-not-is_here-clause-met
returns-then-not-is_here-clause-met g c = λ its goes reached.
    let s = g.L.Line.stands c.args.line.now in
    c.chain_end.ensures.met its (g.L.Line.seat c.args.line.now) c.args.op s goes (subst (λ (n : ℕ). IsReached its c.args.slot.place c.args.slot.entry n s) (sym c.addr_of-addr.ensures) reached)

pub returns-in-Own-clause-met : goal.returns-in-Own-clause-met
returns-in-Own-clause-met g c = λ its goes reached.
    let s = g.L.Line.stands c.args.line.now in
    c.visit-visited.ensures.own c.in-Own.its c.in-Own.is its goes (subst (λ (n : ℕ). IsReached its c.args.slot.place c.args.slot.entry n s) (sym c.addr_of-addr.ensures) reached)

pub walk_on-requires-clause-at : goal.walk_on-requires-clause-at
walk_on-requires-clause-at g c =
    let its = c.requires.at.0 in
    let goes = c.requires.at.1 in
    let s = g.L.Line.stands c.args.line.now in (
      its,
      goes_at its (g.L.Line.seat c.args.line.now) c.args.op c.args.going.now (g.L.Line.seat c.visit-visited.new.line) goes c.visit-visited.ensures.seat,
      c.visit-visited.ensures.other c.in-Other.next c.in-Other.is its goes (subst (λ (n : ℕ). IsReached its c.args.slot.place c.args.slot.entry n s) (sym c.addr_of-addr.ensures) c.requires.at.2),
    )

pub returns-in-Other-clause-met : goal.returns-in-Other-clause-met
returns-in-Other-clause-met g c = λ its goes reached.
    let s = g.L.Line.stands c.args.line.now in
    c.walk_on.ensures.met its (goes_at its (g.L.Line.seat c.args.line.now) c.args.op c.args.going.now (g.L.Line.seat c.visit-visited.new.line) goes c.visit-visited.ensures.seat)
    (c.visit-visited.ensures.other c.in-Other.next c.in-Other.is its goes (subst (λ (n : ℕ). IsReached its c.args.slot.place c.args.slot.entry n s) (sym c.addr_of-addr.ensures) reached))
