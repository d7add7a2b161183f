-- Each call follows those before it.
use Rattle.std.proofs.Common.{◌<◌, ◌∙◌, ℕ, sym, refl, subst}
use Rattle.std.proofs.lemmas.List.{length-set, take_more_set}
use Rattle.fkv_threads.specs.Models.{opening}
use Rattle.fkv_threads.proofs.OneMore.{all_run, one_further}
use Rattle.fkv_threads.proofs.seated.Seated.ops.Goals as goal

pub loop-at-init : goal.loop-at-init
loop-at-init g c = record { count = sym c.requires.room; ran = refl }

pub loop-at-preserved : goal.loop-at-preserved
loop-at-preserved g c =
    let inv = c.loop-at.invariant in
    let written = take_more_set c.loop-at.told c.loop-at.at c.op.result (subst (λ (n : ℕ). c.loop-at.at < n) (sym inv.count) c.loop-at-test.true) in
    record {
      count = length-set _ _ _ ∙ inv.count;
      ran = one_further (opening g.D.Device) _ _ _ _ _ _ _ _ _ _ c.loop-at-test.true refl written inv.ran c.op.ensures.called;
    }

pub returns-clause-ran : goal.returns-clause-ran
returns-clause-ran g c = all_run (opening g.D.Device) _ _ _ _ _ c.loop-at-test.false c.loop-at.invariant.count c.loop-at.invariant.ran
