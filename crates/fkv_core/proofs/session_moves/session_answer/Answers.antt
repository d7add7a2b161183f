-- At rest a session says what it was told.
use Rattle.std.proofs.Common.{rules, ◌≡◌, ◌∙◌, false}
use Rattle.fkv_plane.specs.declared.asks.Ask.TheVariants.{Done}
use Rattle.fkv_session.specs.Sessions.{is_busy, session_ask}
use Rattle.fkv_core.proofs.Ends.{idle_asks, idle_told}
use Rattle.fkv_core.proofs.session_moves.session_answer.Goals as goal

pub returns-in-Done : goal.returns-in-Done
returns-in-Done c =
    let s = c.args.session.now in
    let rests : is_busy s.state.step ≡ false = search rules in
    let asks : session_ask s.seat s.state ≡ Done c.in-Done.told = search rules in
    idle_told s.seat s.state s.state.step s.state.finished c.in-Done.told c.answer_of.result rests asks (rw (← c.finished.ensures.value) c.answer_of.ensures)

pub returns-in_default : goal.returns-in_default
returns-in_default c =
    let s = c.args.session.now in
    let rests : is_busy s.state.step ≡ false = search rules in
    let asks = idle_asks s.seat s.state s.state.step rests in
    absurd (c.in_default.not-Done asks.0 (c.ask.ensures.ask ∙ asks.1))
