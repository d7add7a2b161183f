-- Between two calls the ask is the answer to the last one, whatever serials were taken.
use Rattle.std.proofs.Common.{◌≡◌, ◌+◌, ◌∙◌, ap, false, subst, sym}
use Rattle.fkv_session.specs.declared.sessions.Sitting.{Sitting}
use Rattle.fkv_session.specs.declared.sessions.Sitting.TheVariants.{Idle}
use Rattle.fkv_session.specs.Sessions.{Seat, SessionState, Sitter, is_busy, session_ask, sitting_ask}
use Rattle.fkv_session.proofs.sessions.Session.take_serial.Goals as goal

idle_asks : (k : Seat) (s t : SessionState) (step : Sitting) → is_busy step ≡ false → sitting_ask k s step ≡ sitting_ask k t step
unfolding sitting_ask
idle_asks k s t (Idle its) idle = cc
idle_asks k s t step idle = cc

pub invariant_of-self : goal.invariant_of-self
invariant_of-self c =
    let m = c.self.inside.context in
    let idle : is_busy m.state.step ≡ false = subst (λ (x : Sitter). is_busy x.state.step ≡ false) (sym c.self.view_is) c.requires.idle in
    let same = idle_asks m.seat m.state (record m.state { serial = m.state.serial + 1 }) m.state.step idle in
    c.self.invariant ∙ same ∙ ap (λ (x : Sitter). session_ask x.seat x.state) (sym c.take_serial.ensures)
