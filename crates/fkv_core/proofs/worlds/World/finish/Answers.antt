-- The moves so far are those of one actor, whatever ends them.
use Rattle.std.proofs.Common.{◌∙◌, inl, inr, sym, subst, refl, arith, Bool}
use Rattle.std.specs.Prelude.{Option, None}
use Rattle.fkv_world.specs.World.{Now}
use Rattle.fkv_core.specs.declared.events.Told.{Told}
use Rattle.fkv_core.specs.Told.{IsAnswerBehind}
use Rattle.fkv_core.proofs.Answered.{ended_rests}
use Rattle.fkv_core.proofs.LoneMoves.{none_yet, told_last, told_nothing}
use Rattle.fkv_core.proofs.worlds.World.finish.Goals as goal

pub loop-init : goal.loop-init
loop-init g c = record { honest = (λ it. it, λ it. it); so_far = none_yet c.args.actor c.args.self.now.now _ _ _ _ _ }

pub returns-then-not-is_in_hand-clause-alone : goal.returns-then-not-is_in_hand-clause-alone
returns-then-not-is_in_hand-clause-alone g c =
    let so = c.loop.invariant.so_far in
    record { moves = so.moves; life = so.life; rests = λ none. inl (sym c.is_in_hand.ensures ∙ c.if-not-is_in_hand.true) }

pub returns-then-not-is_in_hand-clause-honest : goal.returns-then-not-is_in_hand-clause-honest
returns-then-not-is_in_hand-clause-honest g c = c.loop.invariant.honest

pub returns-then-advance-clause-alone : goal.returns-then-advance-clause-alone
returns-then-advance-clause-alone g c =
    let after : Now = c.advance.new.self.now in
    let told : Option Told = c.answer.result in
    let tells : IsAnswerBehind c.advance.result c.moving-event.result after told = subst (λ (ended : Bool). IsAnswerBehind ended c.moving-event.result after told) (sym c.if-advance.true) c.answer.ensures.told in
    rw c.answer.ensures.same
    (told_last c.args.actor c.moving-event.result c.loop.counter c.args.self.now.now c.loop.self.now after told _ _ _ _ _ _ _ _ _ _ _ _ _ _ _ _ c.loop.invariant.so_far c.loop.invariant.honest.0 c.moving-event.ensures (c.advance.ensures.step told tells)
    (ended_rests c.args.actor c.moving-event.result c.loop.self.now after c.advance.result c.moving-event.ensures c.advance.ensures.ended c.if-advance.true))

pub returns-then-advance-clause-honest : goal.returns-then-advance-clause-honest
returns-then-advance-clause-honest g c =
    let was = c.loop.invariant.honest in
    let more = c.advance.ensures.honest in
    rw c.answer.ensures.same (λ it. more.0 (was.0 it), λ it. was.1 (more.1 it))

pub loop-preserved : goal.loop-preserved
loop-preserved g c =
    let was = c.loop.invariant.honest in
    let more = c.advance.ensures.honest in
    record {
      honest = (λ it. more.0 (was.0 it), λ it. was.1 (more.1 it));
      so_far = told_nothing c.args.actor c.moving-event.result c.loop.counter c.args.self.now.now c.loop.self.now c.advance.new.self.now _ _ _ _ _ _ _ _ _ _ _ _ _ _ _ _ c.loop.invariant.so_far was.0 c.moving-event.ensures (c.advance.ensures.step None (subst (λ (ended : Bool). IsAnswerBehind ended c.moving-event.result c.advance.new.self.now None) (sym c.if-advance.false) refl));
    }

pub returns-clause-alone : goal.returns-clause-alone
returns-clause-alone g c =
    let so = c.loop.invariant.so_far in
    let many = so.many in
    let over = c.loop-test.false in
    let most = c.loop.auto.counter-end in
    record { moves = so.moves; life = so.life; rests = λ none. inr (omega (arith, many, over, most)) }

pub returns-clause-honest : goal.returns-clause-honest
returns-clause-honest g c = c.loop.invariant.honest
