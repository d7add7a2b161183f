-- Where no call has ended nothing is heard. A crash may have struck.
use Rattle.std.proofs.Common.{Bool, true, false, [], None, refl, sym, subst}
use Rattle.std.proofs.KnownBytes.{Appends-nil}
use Rattle.fkv_core.specs.Told.{IsAnswerBehind}
use Rattle.fkv_playing.proofs.Hearing.{heard_step}
use Rattle.fkv_playing.proofs.Silence.{silent_step}
use Rattle.fkv_playing.proofs.players.Player.beat.Goals as goal

pub returns-then-has_ended : goal.returns-then-has_ended
returns-then-has_ended g c =
    let step = c.advance-has_ended in
    heard_step _ g.D.Breaks.broken _ _ _ _ _ _ _ c.event-event.result c.leaves_sweeping-self-inside.result c.asked.result step.new.self _ _ _ _ c.self.view_is
    c.event-event.ensures c.leaves_sweeping-self-inside.ensures c.asked.ensures (λ told tells. (step.ensures.step told tells, refl)) c.if-has_ended.true
    c.in_ok-note_effect.ensures c.hear_end.ensures

pub returns-then-is_struck : goal.returns-then-is_struck
returns-then-is_struck g c =
    let step = c.advance-has_ended in
    let tells : IsAnswerBehind step.result c.event-event.result step.new.self.now None = subst (λ (ended : Bool). IsAnswerBehind ended c.event-event.result step.new.self.now None) (sym c.if-has_ended.false) refl in (
      [],
      silent_step _ g.D.Breaks.broken _ _ _ _ _ _ c.event-event.result c.leaves_sweeping-self-inside.result step.new.self None true _ c.self.view_is c.event-event.ensures
          c.leaves_sweeping-self-inside.ensures (step.ensures.step None tells, refl) c.in_ok-note_effect.ensures c.if-is_struck.ensures refl refl,
      Appends-nil _,
    )

pub returns : goal.returns
returns g c =
    let step = c.advance-has_ended in
    let tells : IsAnswerBehind step.result c.event-event.result step.new.self.now None = subst (λ (ended : Bool). IsAnswerBehind ended c.event-event.result step.new.self.now None) (sym c.if-has_ended.false) refl in (
      [],
      silent_step _ g.D.Breaks.broken _ _ _ _ _ _ c.event-event.result c.leaves_sweeping-self-inside.result step.new.self None false _ c.self.view_is c.event-event.ensures
          c.leaves_sweeping-self-inside.ensures (step.ensures.step None tells, refl) c.in_ok-note_effect.ensures c.if-is_struck.ensures refl refl,
      Appends-nil _,
    )
