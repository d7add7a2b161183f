use Rattle.std.proofs.Common.{refl, subst, [], ◌++◌, List, ℕ, get_or}
use Rattle.std.specs.Io.KnownBytes.{Appends}
use Rattle.fkv_texts.specs.Lines.{point_text}
use Rattle.fkv_texts.proofs.Appending.{appends_both, appends_nothing, rest_joined, rest_is_nothing}
use Rattle.fkv_texts.proofs.lines.write_points.Goals as goal

pub loop-point-init : goal.loop-point-init
loop-point-init g c = ([], appends_nothing _, refl)

pub loop-point-preserved : goal.loop-point-preserved
loop-point-preserved g c =
    let before = c.loop-point.invariant in
    let point = get_or c.args.points.now c.loop-point.point-index (record { 0 = 0 }) in (
      before.0 ++ point_text point,
      appends_both _ _ _ _ _ before.1 c.in_ok-write_point.ensures,
      rest_joined point_text c.args.points.now c.loop-point.point-index (record { 0 = 0 }) before.0 _ c.loop-point-test.true before.2,
    )

pub returns : goal.returns
returns g c =
    let before = c.loop-point.invariant in
    subst (λ (text : List ℕ). Appends (g.W.Write.contents c.args.output.now) (g.W.Write.contents c.loop-point.output) text)
    (rest_is_nothing point_text c.args.points.now c.loop-point.point-index before.0 _ c.loop-point-test.false before.2) before.1
