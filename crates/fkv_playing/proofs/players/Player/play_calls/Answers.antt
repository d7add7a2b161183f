-- One call more, as long as each is answered.
use Rattle.std.proofs.Common.{◌≡◌, ◌+◌}
use Rattle.fkv_playing.specs.Finishes.{IsPlayedAlone}
use Rattle.fkv_playing.specs.Players.{EngineStep}
use Rattle.fkv_playing.specs.declared.calls.Outcome.TheVariants.{Answered}
use Rattle.fkv_playing.proofs.Comparing.{is_another, is_the_other}
use Rattle.fkv_playing.proofs.Turns.{next_taken}
use Rattle.fkv_playing.proofs.players.Player.play_calls.Goals as goal

pub loop-call-preserved : goal.loop-call-preserved
loop-call-preserved g c =
    let calls = IsPlayedAlone (EngineStep g.D.Device.honest g.D.Device.seen g.D.Device.may_leave g.D.Device.failed g.D.Device.refuses g.D.Device.expects g.D.Breaks.broken) c.args.telling in
    let answered : c.in_ok-outcome.outcome ≡ Answered = is_the_other c.in_ok-outcome.outcome Answered c.if-ne.ensures in
    next_taken calls Answered c.args.calls.now c.loop-call.call-index _ c.args.self.now c.loop-call.self c.play_alone.new.self Answered _ _ _
    c.loop-call-test.true c.loop-call.invariant (rw answered at c.in_ok-outcome.ensures)

pub returns-then-ne : goal.returns-then-ne
returns-then-ne g c =
    let calls = IsPlayedAlone (EngineStep g.D.Device.honest g.D.Device.seen g.D.Device.may_leave g.D.Device.failed g.D.Device.refuses g.D.Device.expects g.D.Breaks.broken) c.args.telling in (
      c.loop-call.call-index + 1,
      λ answered. absurd (is_another c.in_ok-outcome.outcome Answered c.if-ne.ensures answered),
      next_taken calls Answered c.args.calls.now c.loop-call.call-index _ c.args.self.now c.loop-call.self c.play_alone.new.self c.in_ok-outcome.outcome _ _ _
          c.loop-call-test.true c.loop-call.invariant c.in_ok-outcome.ensures,
    )
