-- The call of the device was made, and the turn has gone on up to the next one or to its end.
use Rattle.std.proofs.Common.{◌≡◌, Bool, not, arith, ap, refl, sym, subst, ◌∙◌}
use Rattle.fkv_disk.specs.Asks.{kinds_by}
use Rattle.fkv_keeper.specs.KeeperAsks.{keeper_due}
use Rattle.law_threads.specs.Below.fkv_table.Keeps.{IsAfterSeen}
use Rattle.law_threads.specs.Below.fkv_table.Planes.{opening_of}
use Rattle.law_threads.specs.Below.fkv_table.Turns.{IsCounted}
use Rattle.fkv_threads.specs.Models.{opening}
use Rattle.fkv_threads.proofs.Watching.{at_there, at_work, finished_over, refused_over, turn_behind}
use Rattle.fkv_threads.proofs.keeper_seats.KeeperSeat.step.Goals as goal

pub returns : goal.returns
returns g c =
    let d = g.D.Device in let law = c.law_threads.ensures in
    let here = at_there d _ _ _ _ _ _ _ _ _ (λ i. (sym c.deref-2.ensures i).table.shared.key) (λ i. (sym c.deref-2.ensures i).table.shared.table_id) c.self.invariant in
    let in_turn = turn_behind d _ _ _ _ _ _ _ c.device_step.new.pass.seat.me.0.seen c.drive-next.new.pass.seat.me.0.seen (ap (λ w. w.in_turn) c.self.view_is ∙ c.requires.due) here c.device_step.ensures.went c.drive-next.ensures.went in
    record {
      stepped = rw (← c.self.view_is) (record {
        same = record { key = refl; table = refl };
        called = c.device_step.new.pass.seat.me.0.seen;
        went = c.device_step.ensures.went;
        due = subst (λ (by : Bool). d.expects c.device_step.new.d ≡ kinds_by (keeper_due c.self.inside.keeper.machine) (not by) (d.expects c.self.inside.device)) (sym c.drive-next.ensures.by_device) c.device_step.ensures.due;
        counted = subst (λ (by : Bool). IsCounted 1 by (d.failed c.self.inside.device) (d.failed c.device_step.new.d) (d.refuses c.self.inside.device) (d.refuses c.device_step.new.d)) (sym c.drive-next.ensures.by_device) c.device_step.ensures.counted;
        fewer = omega (arith, c.device_step.ensures.fewer, c.drive-next.ensures.left);
        moments = rw (← c.deref.ensures) c.device_step.ensures.moments;
        recovered = rw (← c.deref.ensures) (law.turns (opening_of d.seen) _ _ _ c.device_step.ensures.at_work.keeping.allowed);
        driven = record {
          went = c.drive-next.ensures.went;
          leaves = rw (← c.deref-2.ensures) c.drive-next.ensures.device;
          asked = c.drive-next.ensures.told;
          in_turn = c.is_due-self-inside.ensures;
          finished = rw (← c.deref-2.ensures) (finished_over d _ _ _ c.drive-next.result _ _ (law.finished (opening_of d.seen)) c.drive-next.ensures.at_work c.drive-next.ensures.told);
          refused = rw (← c.deref-2.ensures) (refused_over d _ _ _ _ c.drive-next.result _ _ (law.refused (opening_of d.seen)) in_turn c.drive-next.ensures.at_work c.drive-next.ensures.told);
        };
      });
    }

pub invariant_of-self : goal.invariant_of-self
invariant_of-self g c =
    let d = g.D.Device in let ran = c.drive-next.ensures in
    let after = subst (λ key. IsAfterSeen (opening d) key c.device_step.new.pass.seat.me.0.seen (d.seen c.device_step.new.d) (d.may_leave c.device_step.new.d)) (λ i. ((c.deref.ensures ∙ sym c.deref-2.ensures) i).table.shared.key) c.device_step.ensures.after in
    at_there d _ _ _ _ _ _ _ _ _ (λ i. (c.deref-2.ensures i).table.shared.key) (λ i. (c.deref-2.ensures i).table.shared.table_id)
    (at_work d _ _ _ c.drive-next.result _ _ _ _ c.device_step.new.pass.seat.me.0.seen c.is_due-self-inside.ensures ran.at_work ran.told c.device_step.ensures.honest ran.device after)
