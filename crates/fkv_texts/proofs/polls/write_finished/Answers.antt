use Rattle.std.proofs.Common.{refl, subst, [], ◌++◌, List, ℕ, get_or}
use Rattle.std.specs.Io.KnownBytes.{Appends}
use Rattle.fkv_map.specs.declared.operations.Reply.TheVariants.{Nothing}
use Rattle.fkv_session.specs.declared.answers.Finished.{Finished}
use Rattle.fkv_session.specs.declared.answers.Finished.TheVariants.{Update}
use Rattle.fkv_texts.specs.Polls.{finished_line}
use Rattle.fkv_texts.proofs.Appending.{appends_both, appends_nothing, rest_joined, rest_is_nothing}
use Rattle.fkv_texts.proofs.polls.write_finished.Goals as goal

abbrev none : Finished
none = Update (record { 0 = 0 }) Nothing

pub loop-its-init : goal.loop-its-init
loop-its-init g c = ([], appends_nothing _, refl)

pub loop-its-preserved : goal.loop-its-preserved
loop-its-preserved g c =
    let before = c.loop-its.invariant in
    let its : Finished = get_or c.args.finished.now c.loop-its.its-index none in (
      before.0 ++ finished_line c.args.session c.args.waiting.now its,
      appends_both _ _ _ _ _ before.1 c.in_ok-write_finished_line.ensures,
      rest_joined (finished_line c.args.session c.args.waiting.now) c.args.finished.now c.loop-its.its-index none before.0 _ c.loop-its-test.true before.2,
    )

pub returns : goal.returns
returns g c =
    let before = c.loop-its.invariant in
    subst (λ (text : List ℕ). Appends (g.W.Write.contents c.args.output.now) (g.W.Write.contents c.loop-its.output) text)
    (rest_is_nothing (finished_line c.args.session c.args.waiting.now) c.args.finished.now c.loop-its.its-index before.0 _ c.loop-its-test.false before.2) before.1
