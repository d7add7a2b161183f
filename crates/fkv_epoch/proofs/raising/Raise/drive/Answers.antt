-- Fewer asks are left, and no more come later.
use Rattle.std.proofs.Common.{rules, ◌≡◌, ◌-◌, ◌≤◌, arith, subst}
use Rattle.fkv_epoch.specs.declared.raising.Raising.{Raising}
use Rattle.fkv_epoch.specs.Raising.{raise_next, raise_asks_left, raise_asks_later}
use Rattle.fkv_epoch.proofs.AsksLeft.{raise_fewer, raise_later}
use Rattle.fkv_epoch.proofs.raising.Raise.drive.Goals as goal

pub returns-then-reply-ge-LAST_EPOCH-clause-fewer : goal.returns-then-reply-ge-LAST_EPOCH-clause-fewer
unfolding raise_asks_left
returns-then-reply-ge-LAST_EPOCH-clause-fewer c = omega arith

pub returns-then-reply-ge-LAST_EPOCH-clause-later : goal.returns-then-reply-ge-LAST_EPOCH-clause-later
unfolding raise_asks_later
returns-then-reply-ge-LAST_EPOCH-clause-later c = omega arith

pub returns-in-RaisesEpoch-clause-fewer : goal.returns-in-RaisesEpoch-clause-fewer
unfolding raise_asks_left
returns-in-RaisesEpoch-clause-fewer c = omega arith

pub returns-in-RaisesEpoch-clause-later : goal.returns-in-RaisesEpoch-clause-later
unfolding raise_asks_later
returns-in-RaisesEpoch-clause-later c = omega arith

pub returns-clause-fewer : goal.returns-clause-fewer
unfolding raise_next
returns-clause-fewer c =
    let its : raise_next c.args.self.now.step c.args.reply ≡ c.match-self.self.step = search rules in
    subst (λ (s : Raising). raise_asks_left s ≤ raise_asks_left c.args.self.now.step - 1) its (raise_fewer c.args.self.now.step c.args.reply)

pub returns-clause-later : goal.returns-clause-later
unfolding raise_next
returns-clause-later c =
    let its : raise_next c.args.self.now.step c.args.reply ≡ c.match-self.self.step = search rules in
    subst (λ (s : Raising). raise_asks_later s ≤ raise_asks_later c.args.self.now.step) its (raise_later c.args.self.now.step c.args.reply)
