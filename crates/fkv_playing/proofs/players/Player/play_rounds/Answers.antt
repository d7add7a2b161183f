-- The calls of all rounds are played, as far as they are.
use Rattle.std.proofs.Common.{◌≡◌, ◌∙◌, ap, List}
use Rattle.std.specs.Io.KnownBytes.{Appends}
use Rattle.fkv_playing.specs.Finishes.{behind_rounds, most_rounds, round_of, rounds}
use Rattle.fkv_playing.specs.Players.{EngineStep, PlayerState}
use Rattle.fkv_playing.specs.Seats.{SeatState}
use Rattle.fkv_playing.specs.declared.calls.Outcome.TheVariants.{Answered}
use Rattle.fkv_playing.proofs.Comparing.{is_not_same, is_same}
use Rattle.fkv_playing.proofs.Rounds.{enough, not_enough, rounds_played}
use Rattle.fkv_playing.proofs.players.Player.play_rounds.Goals as goal
use Rattle.fkv_playing.proofs.players.Player.play_rounds.Goals.{then-eq+in_ok-write_not_finished, else-eq}

pub returns : goal.returns
returns g c =
    let engine = EngineStep g.D.Device.honest g.D.Device.seen g.D.Device.may_leave g.D.Device.failed g.D.Device.refuses g.D.Device.expects g.D.Breaks.broken in
    let its = c.in_ok-outcome.ensures in
    let all : c.as_slice.result.now ≡ rounds most_rounds (round_of c.args.self.now.seats) =
    c.as_slice.ensures.value ∙ c.in_ok-calls.ensures ∙ ap (λ (seats : List SeatState). rounds most_rounds (round_of seats)) (c.deref.ensures.value ∙ ap (λ (player : PlayerState g.row.D.Denot). player.seats) c.self.view_is) in
    let told : Appends (g.W.Write.contents c.play_calls.new.output) (g.W.Write.contents c.if-eq.output) (behind_rounds c.in_ok-outcome.outcome) =
    elim c.if-eq.branch [
      | then-eq+in_ok-write_not_finished w ↦ rw w.output-is (not_enough c.in_ok-outcome.outcome _ _ (is_same c.in_ok-outcome.outcome Answered w.if-eq.ensures) w.in_ok-write_not_finished.ensures)
      | else-eq w ↦ rw w.output-is (enough c.in_ok-outcome.outcome _ (is_not_same c.in_ok-outcome.outcome Answered w.if-eq.ensures))
    ] in
    rounds_played engine c.as_slice.result.now its.0 c.args.self.now c.play_calls.new.self c.in_ok-outcome.outcome _ _ _ all its.1 its.2 told
