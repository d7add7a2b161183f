use Rattle.std.proofs.Common.{◌≡◌, ℕ, ◌-◌, sym, subst, arith}
use Rattle.fkv_straight.specs.Met.{HasSlot, IsAtLink}
use Rattle.fkv_straight.proofs.Goings.{goes_at}
use Rattle.fkv_straight.proofs.searching.seek.Goals as goal

none_passed : (n : ℕ) → n - 0 ≡ n
none_passed n = omega arith

pub seek_in-sought-requires-clause-at : goal.seek_in-sought-requires-clause-at
seek_in-sought-requires-clause-at g c =
    let its = c.requires.at.0 in
    let links = c.args.going.now.places.overflow in
    (its, c.requires.at.1, subst (λ (n : ℕ). HasSlot its c.args.first n 0 c.args.found (g.L.Line.stands c.args.line.now)) (sym (none_passed links)) c.requires.at.2)

pub seek_on-requires-clause-at : goal.seek_on-requires-clause-at
seek_on-requires-clause-at g c =
    let its = c.requires.at.0 in
    let goes = c.requires.at.1 in
    let links = c.args.going.now.places.overflow in
    let has = subst (λ (n : ℕ). HasSlot its c.args.first n 0 c.args.found (g.L.Line.stands c.args.line.now)) (sym (none_passed links)) c.requires.at.2 in (
      its,
      goes_at its (g.L.Line.seat c.args.line.now) c.args.op c.args.going.now (g.L.Line.seat c.seek_in-sought.new.line) goes c.seek_in-sought.ensures.seat,
      subst (λ (n : ℕ). IsAtLink its c.args.first n (g.L.Line.stands c.seek_in-sought.new.line)) (none_passed links) (c.seek_in-sought.ensures.passed c.in-Passed.is its goes has),
    )

pub returns-in-At-clause-found : goal.returns-in-At-clause-found
returns-in-At-clause-found g c = λ its goes slot.
    let has = subst (λ (n : ℕ). HasSlot its c.args.first n 0 c.args.found (g.L.Line.stands c.args.line.now)) (sym (none_passed c.args.going.now.places.overflow)) slot in
    c.seek_in-sought.ensures.found c.in-At.slot c.in-At.is its goes has

pub returns-in-Passed-clause-found : goal.returns-in-Passed-clause-found
returns-in-Passed-clause-found g c = λ its goes slot.
    let links = c.args.going.now.places.overflow in
    let has = subst (λ (n : ℕ). HasSlot its c.args.first n 0 c.args.found (g.L.Line.stands c.args.line.now)) (sym (none_passed links)) slot in
    c.seek_on.ensures.found its (goes_at its (g.L.Line.seat c.args.line.now) c.args.op c.args.going.now (g.L.Line.seat c.seek_in-sought.new.line) goes c.seek_in-sought.ensures.seat)
    (subst (λ (n : ℕ). IsAtLink its c.args.first n (g.L.Line.stands c.seek_in-sought.new.line)) (none_passed links) (c.seek_in-sought.ensures.passed c.in-Passed.is its goes has))
