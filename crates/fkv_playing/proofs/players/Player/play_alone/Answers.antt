-- One beat more, as long as the call goes on.
use Rattle.std.proofs.Common.{◌≡◌}
use Rattle.fkv_playing.specs.Beats.{IsBeat}
use Rattle.fkv_playing.specs.Players.{EngineStep}
use Rattle.fkv_playing.specs.declared.calls.Outcome.TheVariants.{GoesOn}
use Rattle.fkv_playing.specs.declared.calls.Stage.TheVariants.{Begins, Moves}
use Rattle.fkv_playing.proofs.Comparing.{is_another, is_the_other}
use Rattle.fkv_playing.proofs.Turns.{one_more_alike}
use Rattle.fkv_playing.proofs.players.Player.play_alone.Goals as goal

pub loop-preserved : goal.loop-preserved
loop-preserved g c =
    let beats = IsBeat (EngineStep g.D.Device.honest g.D.Device.seen g.D.Device.may_leave g.D.Device.failed g.D.Device.refuses g.D.Device.expects g.D.Breaks.broken) c.args.telling c.args.call in
    let goes_on : c.loop.outcome ≡ GoesOn = is_the_other c.loop.outcome GoesOn c.if-ne.ensures in
    one_more_alike beats GoesOn Begins Moves c.loop.counter c.args.self.now c.loop.self c.beat-in-loop.new.self c.in_ok-outcome-2.outcome _ _ _
    (rw goes_on at c.loop.invariant) c.in_ok-outcome-2.ensures

pub returns-then-ne : goal.returns-then-ne
returns-then-ne g c =
    let so_far = c.loop.invariant in
    (so_far.0, record { moves = c.loop.counter; beats = so_far.1; over = is_another c.loop.outcome GoesOn c.if-ne.ensures }, so_far.2)
