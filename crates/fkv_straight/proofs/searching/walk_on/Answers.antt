use Rattle.std.proofs.Common.{◌∙◌, sym, arith}
use Rattle.fkv_straight.proofs.Goings.{goes_at}
use Rattle.fkv_straight.proofs.searching.walk_on.Goals as goal

pub visit-visited-requires-clause-at : goal.visit-visited-requires-clause-at
visit-visited-requires-clause-at g c =
    let its = c.requires.at.0 in
    let goes = c.requires.at.1 in
    (its, goes_at its (g.L.Line.seat c.args.line.now) c.args.op c.args.going.now (g.L.Line.seat c.records.line) goes c.records.invariant.seat, c.records.invariant.stands its goes c.requires.at.2)

pub visit-visited-requires-clause-here : goal.visit-visited-requires-clause-here
visit-visited-requires-clause-here g c = sym c.records.invariant.here ∙ c.records-test.true

pub returns-in-Own-clause-met : goal.returns-in-Own-clause-met
returns-in-Own-clause-met g c = λ its goes reached.
    c.visit-visited.ensures.own c.in-Own.its c.in-Own.is its (goes_at its (g.L.Line.seat c.args.line.now) c.args.op c.args.going.now (g.L.Line.seat c.records.line) goes c.records.invariant.seat) (c.records.invariant.stands its goes reached)

pub records-preserved : goal.records-preserved
records-preserved g c = record {
  few = omega arith;
  seat = c.visit-visited.ensures.seat ∙ c.records.invariant.seat;
  led = λ start call led. c.visit-visited.ensures.led start call (c.records.invariant.led start call led);
  kept = (let e = c.visit-visited.ensures.kept in let i = c.records.invariant.kept in omega (arith, e, i));
  here = c.is_in_memory-is_here-in-records.ensures;
  stands = λ its goes reached.
      c.visit-visited.ensures.other c.in-Other.next c.in-Other.is its (goes_at its (g.L.Line.seat c.args.line.now) c.args.op c.args.going.now (g.L.Line.seat c.records.line) goes c.records.invariant.seat) (c.records.invariant.stands its goes reached);
}

pub returns-clause-met : goal.returns-clause-met
returns-clause-met g c = λ its goes reached.
    c.chain_end.ensures.met its (g.L.Line.seat c.args.line.now) c.args.op (g.L.Line.stands c.records.line) goes (c.records.invariant.stands its goes reached)
