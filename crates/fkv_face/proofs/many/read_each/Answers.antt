-- One read more.
use Rattle.std.proofs.Common.{subst, slice_index_or, arith}
use Rattle.fkv_posted.specs.contracts.posted.PostedDevice.TheImpl as medium
use Rattle.fkv_handles.specs.Below.fkv_table.Planes.{opening_of}
use Rattle.fkv_handles.specs.declared.sessions.Session.{Session}
use Rattle.fkv_face.specs.Many as says
use Rattle.fkv_face.proofs.InOrder.{one_more_call}
use Rattle.fkv_face.proofs.many.read_each.Goals as goal

pub loop-i-preserved : goal.loop-i-preserved
loop-i-preserved c =
    let one = says.IsEachRead (opening_of medium.seen-value.it) in
    one_more_call one 0 c.args.keys.now c.args.told.now c.loop-i.told c.loop-i.i c.read_one.result c.args.session.now.value c.loop-i.session.value c.read_one.new.session.value
    (omega (arith, c.loop-i-test.true)) (omega (arith, c.loop-i-test.true, c.requires)) c.loop-i.invariant
    (subst (λ (s : Session). one s (slice_index_or c.args.keys.now c.loop-i.i 0) c.read_one.result c.read_one.new.session.value) c.fetch_ahead.ensures.same c.read_one.ensures)
