use Rattle.std.proofs.Common.{refl, subst, [], ◌++◌, List, ℕ, get_or}
use Rattle.std.specs.Io.KnownBytes.{Appends}
use Rattle.fkv_texts.specs.Lines.{key_text}
use Rattle.fkv_texts.proofs.Appending.{appends_both, appends_nothing, rest_joined, rest_is_nothing}
use Rattle.fkv_texts.proofs.lines.write_keys.Goals as goal

pub loop-key-init : goal.loop-key-init
loop-key-init g c = ([], appends_nothing _, refl)

pub loop-key-preserved : goal.loop-key-preserved
loop-key-preserved g c =
    let before = c.loop-key.invariant in
    let key = get_or c.args.keys.now c.loop-key.key-index (record { 0 = 0 }) in (
      before.0 ++ key_text key,
      appends_both _ _ _ _ _ before.1 c.in_ok-write_key.ensures,
      rest_joined key_text c.args.keys.now c.loop-key.key-index (record { 0 = 0 }) before.0 _ c.loop-key-test.true before.2,
    )

pub returns : goal.returns
returns g c =
    let before = c.loop-key.invariant in
    subst (λ (text : List ℕ). Appends (g.W.Write.contents c.args.output.now) (g.W.Write.contents c.loop-key.output) text)
    (rest_is_nothing key_text c.args.keys.now c.loop-key.key-index before.0 _ c.loop-key-test.false before.2) before.1
