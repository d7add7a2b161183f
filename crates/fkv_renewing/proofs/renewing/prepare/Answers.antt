use Rattle.std.proofs.Common.{◌≡◌, true, false, sym, ◌∙◌, arith}
use Rattle.std.specs.BTreeMap.{keys}
use Rattle.fkv_renewing.proofs.Rooming.{keys_are_homes, no_slots}
use Rattle.fkv_renewing.proofs.renewing.prepare.Goals as goal

pub returns-then-not-branch-clause-err : goal.returns-then-not-branch-clause-err
returns-then-not-branch-clause-err c = λ slots.
    let chained = c.in_ok-chained.chained in
    let homes = keys_are_homes c.args.shape.bucket_bits c.args.pairs.now chained.latest c.in_ok-chained.ensures.latest c.in_ok-has_slots.ensures.ordered in
    no_slots c.law_spellings_apart.ensures.records c.args.shape c.args.pairs.now chained.records.items c.in_ok-chained.ensures.records (keys chained.latest) homes
    (λ enough. let never : true ≡ false = sym (c.in_ok-has_slots.ensures.ok.1 enough) ∙ c.if-not-branch.true in absurd (cc)) slots

pub returns-clause-room : goal.returns-clause-room
returns-clause-room c =
    let chained = c.in_ok-chained.chained in
    record {
      slots = record {
        homes = keys chained.latest;
        are_homes = keys_are_homes c.args.shape.bucket_bits c.args.pairs.now chained.latest c.in_ok-chained.ensures.latest c.in_ok-has_slots.ensures.ordered;
        enough = c.in_ok-has_slots.ensures.ok.0 c.if-not-branch.false;
      };
      places = omega (arith, c.if-pairs-shape.false);
      sessions = c.has_sessions.ensures.0 c.if-not-has_sessions.false;
    }
