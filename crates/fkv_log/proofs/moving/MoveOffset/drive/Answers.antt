-- The raise inside stays in range, and asks where it goes on; and fewer asks are left.
use Rattle.std.proofs.Common.{rules, ◌≡◌, ◌-◌, ◌≤◌, arith, refl, subst}
use Rattle.fkv_log.specs.Moving.{Mover, moving_next, moving_asks_left, move_asks_left}
use Rattle.fkv_log.proofs.NestedLeft.{moving_fewer}
use Rattle.fkv_epoch.proofs.Shown.{next_in_range, on_in_range, ask_in_range, next_ask_in_range, next_ask_asks}
use Rattle.fkv_log.proofs.moving.MoveOffset.drive.Goals as goal

pub after_raise-requires-clause-in_range : goal.after_raise-requires-clause-in_range
after_raise-requires-clause-in_range c = rw c.drive-ask.ensures.ask (next_ask_in_range _ _ c.self.invariant.0)

pub after_raise-requires-clause-asks : goal.after_raise-requires-clause-asks
after_raise-requires-clause-asks c = rw (c.drive-ask.ensures.ask, c.drive-ask.ensures.next) (next_ask_asks _ _)

pub invariant_of-self-in-Raises : goal.invariant_of-self-in-Raises
invariant_of-self-in-Raises c = rw c.drive-ask.ensures.next (next_in_range _ _ c.self.invariant.0, tt)

pub after_raise-requires-in-MovesOffset-clause-in_range : goal.after_raise-requires-in-MovesOffset-clause-in_range
after_raise-requires-in-MovesOffset-clause-in_range c = rw c.raise-ask.ensures.ask (ask_in_range _)

pub after_raise-requires-in-MovesOffset-clause-asks : goal.after_raise-requires-in-MovesOffset-clause-asks
after_raise-requires-in-MovesOffset-clause-asks c = rw (c.raise-ask.ensures.ask, c.raise-ask.ensures.next) refl

pub invariant_of-self-in-MovesOffset : goal.invariant_of-self-in-MovesOffset
invariant_of-self-in-MovesOffset c = rw c.raise-ask.ensures.next (on_in_range _ c.self.invariant.0, tt)

pub returns-in-AtRest-clause-fewer : goal.returns-in-AtRest-clause-fewer
unfolding moving_asks_left
returns-in-AtRest-clause-fewer c = omega arith

pub returns-in-Raises-clause-fewer : goal.returns-in-Raises-clause-fewer
unfolding moving_next
returns-in-Raises-clause-fewer c =
    let from = c.self.inside in
    let its : moving_next from.step from.raise.step from.arm.step c.args.reply ≡ c.after_raise.new.self = search rules in
    rw (← c.self.view_is) (subst (λ (m : Mover). move_asks_left m ≤ moving_asks_left from.step from.raise.step from.arm.step - 1) its
    (moving_fewer from.step from.raise.step from.arm.step c.args.reply c.self.invariant.1))

pub returns-in-MovesOffset-clause-fewer : goal.returns-in-MovesOffset-clause-fewer
unfolding moving_next
returns-in-MovesOffset-clause-fewer c =
    let from = c.self.inside in
    let its : moving_next from.step from.raise.step from.arm.step c.args.reply ≡ c.after_raise-in-MovesOffset.new.self = search rules in
    rw (← c.self.view_is) (subst (λ (m : Mover). move_asks_left m ≤ moving_asks_left from.step from.raise.step from.arm.step - 1) its
    (moving_fewer from.step from.raise.step from.arm.step c.args.reply c.self.invariant.1))

pub returns-in-Puts-clause-fewer : goal.returns-in-Puts-clause-fewer
unfolding moving_next
returns-in-Puts-clause-fewer c =
    let from = c.self.inside in
    let its : moving_next from.step from.raise.step from.arm.step c.args.reply ≡ c.after_arm.new.self = search rules in
    rw (← c.self.view_is) (subst (λ (m : Mover). move_asks_left m ≤ moving_asks_left from.step from.raise.step from.arm.step - 1) its
    (moving_fewer from.step from.raise.step from.arm.step c.args.reply c.self.invariant.1))
