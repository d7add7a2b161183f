-- The session was ready, and has run the call with its pass: so the thread law speaks of it.
use Rattle.std.proofs.Common.{sym}
use Rattle.fkv_map.specs.declared.operations.Call.TheVariants.{Op}
use Rattle.law_threads.specs.Below.fkv_table.Planes.{opening_of}
use Rattle.fkv_threads.proofs.Lawful.{told_call, told_there}
use Rattle.fkv_threads.proofs.Shares.{ready_at}
use Rattle.fkv_threads.proofs.seated.Seated.op.Goals as goal

pub op-requires : goal.op-requires
op-requires g c = record {
  ready = ready_at (opening_of g.D.Device.seen) _ _ _ _ _ _ _ _ (λ i. (c.deref.ensures i).table.shared.key) (λ i. (c.deref.ensures i).table.shared.table_id) c.self.invariant;
}

pub invariant_of-self : goal.invariant_of-self
invariant_of-self g c =
    ready_at (opening_of g.D.Device.seen) _ _ _ _ _ _ _ _ (λ i. (sym c.deref.ensures i).table.shared.key) (λ i. (sym c.deref.ensures i).table.shared.table_id) c.op.ensures.ready

pub returns : goal.returns
returns g c =
    let at = opening_of g.D.Device.seen in let me = c.self.inside.pass.seat.me in let me' = c.op.new.pass.seat.me in let m = c.self.inside.session.machine in let m' = c.op.new.self.machine in
    let ran = c.op.ensures in let law = c.law_threads.ensures in
    let here = ready_at at _ _ _ _ _ _ _ _ (λ i. (c.deref.ensures i).table.shared.key) (λ i. (c.deref.ensures i).table.shared.table_id) c.self.invariant in
    record {
      called = told_there at _ _ _ _ me me' m m' _ _ _ (λ i. (c.deref.ensures i).table.shared.key) (λ i. (c.deref.ensures i).table.shared.table_id) c.self.view_is
          (told_call at _ _ _ _ me me' m m' _ _ (Op c.args.op) _ here ran.ready ran.number ran.called ran.told (law.in_lives at) (law.durable at) (law.never_falls at) (law.recovered at));
    }
