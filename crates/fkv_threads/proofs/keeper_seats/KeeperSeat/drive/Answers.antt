-- A turn has begun, and has gone on up to a call of the device or to its end.
use Rattle.std.proofs.Common.{refl, sym, subst, ◌∙◌}
use Rattle.std.proofs.lemmas.Bool.{false≢true}
use Rattle.law_threads.specs.Below.fkv_table.Keeps.{LeavesDevice}
use Rattle.law_threads.specs.Below.fkv_table.Planes.{opening_of}
use Rattle.fkv_threads.specs.Models.{opening}
use Rattle.fkv_threads.proofs.Taken.{after_none}
use Rattle.fkv_threads.proofs.Watching.{at_there, at_work, finished_over, refused_over, turn_from}
use Rattle.fkv_threads.proofs.keeper_seats.KeeperSeat.drive.Goals as goal

pub returns : goal.returns
returns g c =
    let d = g.D.Device in let law = c.law_threads.ensures in
    let here = at_there d _ _ _ _ _ _ _ _ _ (λ i. (sym c.deref-2.ensures i).table.shared.key) (λ i. (sym c.deref-2.ensures i).table.shared.table_id) c.self.invariant in
    let in_turn = turn_from d _ _ _ _ _ _ _ c.start_turn.new.pass.seat.me.0.seen c.drive-next.new.pass.seat.me.0.seen c.if-self.false here c.start_turn.ensures.kept c.drive-next.ensures.went in
    record {
      driven = rw (← c.self.view_is) (record {
        waits = λ turns. absurd (false≢true (sym c.if-self.false ∙ turns));
        begins = λ _. record {
          same = record { key = refl; table = refl };
          medium = refl;
          begun = c.start_turn.new.pass.seat.me.0.seen;
          its = c.start_turn.new.self.machine;
          left = c.drive-next.ensures.left;
          kept = c.start_turn.ensures.kept;
          leaves = rw (← c.deref.ensures) c.start_turn.ensures.device;
          uncalled = c.drive-next.ensures.by_device ∙ c.start_turn.ensures.by_device;
          driven = record {
            went = c.drive-next.ensures.went;
            leaves = rw (← c.deref-2.ensures) c.drive-next.ensures.device;
            asked = c.drive-next.ensures.told;
            in_turn = c.is_due-self-inside.ensures;
            finished = rw (← c.deref-2.ensures) (finished_over d _ _ _ c.drive-next.result _ _ (law.finished (opening_of d.seen)) c.drive-next.ensures.at_work c.drive-next.ensures.told);
            refused = rw (← c.deref-2.ensures) (refused_over d _ _ _ _ c.drive-next.result _ _ (law.refused (opening_of d.seen)) in_turn c.drive-next.ensures.at_work c.drive-next.ensures.told);
          };
        };
      });
    }

pub invariant_of-self : goal.invariant_of-self
invariant_of-self g c =
    let d = g.D.Device in let ran = c.drive-next.ensures in
    let here = at_there d _ _ _ _ _ _ _ _ _ (λ i. (sym c.deref-2.ensures i).table.shared.key) (λ i. (sym c.deref-2.ensures i).table.shared.table_id) c.self.invariant in
    let leaves = subst (λ key. LeavesDevice (opening d) key c.self.inside.pass.seat.me.0.seen c.start_turn.new.pass.seat.me.0.seen) (λ i. ((c.deref.ensures ∙ sym c.deref-2.ensures) i).table.shared.key) c.start_turn.ensures.device in
    let after = after_none (opening d) _ c.self.inside.pass.seat.me.0.seen c.start_turn.new.pass.seat.me.0.seen (d.seen c.self.inside.device) (d.may_leave c.self.inside.device) leaves here.after in
    at_there d _ _ _ _ _ _ _ _ _ (λ i. (c.deref-2.ensures i).table.shared.key) (λ i. (c.deref-2.ensures i).table.shared.table_id)
    (at_work d _ _ _ c.drive-next.result _ _ _ _ c.start_turn.new.pass.seat.me.0.seen c.is_due-self-inside.ensures ran.at_work ran.told here.honest ran.device after)
