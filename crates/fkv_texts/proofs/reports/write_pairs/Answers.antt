use Rattle.std.proofs.Common.{refl, subst, [], ◌++◌, List, ℕ, get_or}
use Rattle.std.specs.Io.KnownBytes.{Appends}
use Rattle.fkv_texts.specs.Reports.{pair_line}
use Rattle.fkv_texts.proofs.Appending.{appends_both, appends_nothing, rest_joined, rest_is_nothing}
use Rattle.fkv_texts.proofs.reports.write_pairs.Goals as goal

pub loop-pair-init : goal.loop-pair-init
loop-pair-init g c = ([], appends_nothing _, refl)

pub loop-pair-preserved : goal.loop-pair-preserved
loop-pair-preserved g c =
    let before = c.loop-pair.invariant in
    let pair = get_or c.args.pairs.now c.loop-pair.pair-index (record { 0 = 0 }, record { 0 = 0 }) in (
      before.0 ++ pair_line pair,
      appends_both _ _ _ _ _ before.1 c.in_ok-write_pair.ensures,
      rest_joined pair_line c.args.pairs.now c.loop-pair.pair-index (record { 0 = 0 }, record { 0 = 0 }) before.0 _ c.loop-pair-test.true before.2,
    )

pub returns : goal.returns
returns g c =
    let before = c.loop-pair.invariant in
    subst (λ (text : List ℕ). Appends (g.W.Write.contents c.args.output.now) (g.W.Write.contents c.loop-pair.output) text)
    (rest_is_nothing pair_line c.args.pairs.now c.loop-pair.pair-index before.0 _ c.loop-pair-test.false before.2) before.1
